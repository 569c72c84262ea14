-- What is seen of the class declarations of a program without the types in the signatures of members, and of members of a table.
use Rattle.std.specs.Prelude.{◌≡◌, map}
use Rattle.dart_ir.specs.declared.class.Classes.{Classes}
use Rattle.class_fault.specs.declared.program.Member.{Member}
use Rattle.class_fault.specs.declared.program.Declaration.{Declaration}
use Rattle.class_fault.specs.declared.program.Program.{Program}
use Rattle.core_program.specs.ProgramView as v
use Rattle.core_program.specs.Stripped as stripped
use Rattle.class_within.specs.Seen as s
use Rattle.class_within.specs.View as view

abbrev pub loose_member : s.Member → s.Member
loose_member m = record m { signature = stripped.loose m.signature }

abbrev pub loose_class : s.Class → s.Class
loose_class c = record c { members = map loose_member c.members }

abbrev pub loose_program : s.Program → s.Program
loose_program p = record p { classes = map loose_class p.classes }

abbrev pub member : Member → s.Member
member m = loose_member (view.member m)

abbrev pub class : Declaration → s.Class
class i = record (view.class i) { members = map member i.members.items }

abbrev pub program : Program → s.Program
program p = record (view.program p) { classes = map class p.declarations.items }

-- the same classes, and members that are the same but for the types in their signatures, by the same numbers, and the same class `Function`
pub record IsSameShape (k l : Classes) : Type 0 where
  pub classes : map v.class k.classes.items ≡ map v.class l.classes.items
  pub members : map (λ m. stripped.member (v.member m)) k.members.items ≡ map (λ m. stripped.member (v.member m)) l.members.items
  pub function : k.function ≡ l.function
