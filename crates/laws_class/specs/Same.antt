-- Tables of classes that are the same but for the room that their lists take.
use Rattle.std.specs.Prelude.{◌≡◌, map}
use Rattle.dart_ir.specs.declared.class.Classes.{Classes}
use Rattle.core_program.specs.ProgramView as v

-- the same classes and members, by the same numbers, and the same class `Function`
pub record IsSameTable (k l : Classes) : Type 0 where
  pub classes : map v.class k.classes.items ≡ map v.class l.classes.items
  pub members : map v.member k.members.items ≡ map v.member l.members.items
  pub function : k.function ≡ l.function
