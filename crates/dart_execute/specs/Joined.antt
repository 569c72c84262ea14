-- Means of proof, which no public contract cites: a program that was translated over a table of classes, and that table.
use Rattle.std.specs.Prelude.{◌≡◌, map}
use Rattle.dart_ir.specs.declared.class.Classes.{Classes}
use Rattle.lower_leaf.specs.Around.{Around}
use Rattle.lower_mixin.specs.Views.{class_info}
use Rattle.lower_program.specs.Views.{member_info}

-- two tables have the same classes and members, with names as texts
pub record IsJoined (a : Around) (k l : Classes) : Type 0 where
  pub classes : map (class_info a) k.classes.items ≡ map (class_info a) l.classes.items
  pub members : map (member_info a) k.members.items ≡ map (member_info a) l.members.items
  pub function : k.function.0 ≡ l.function.0
