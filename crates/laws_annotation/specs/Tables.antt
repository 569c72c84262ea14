-- Tables of classes that differ in the types of signatures alone, as those of a program and of the erased one.
use Rattle.std.specs.Prelude.{◌≡◌, List, map}
use Rattle.dart_ir.specs.declared.class.Classes.{Classes}
use Rattle.dart_ir.specs.declared.class.MemberInfo.{MemberInfo}
use Rattle.core_program.specs.Named as with_names
use Rattle.core_program.specs.Program as p
use Rattle.core_program.specs.ProgramView as pv
use Rattle.core_program.specs.Stripped as stripped
use Rattle.translation.specs.Surroundings.{Text}
use Rattle.lower_table.specs.Rows.{rows_of}

-- a member with names as texts, and a signature of the same shape in which every type is dynamic
abbrev pub loose_member : List Text → MemberInfo → p.Member Text
loose_member texts x = stripped.member (with_names.member (pv.text_at texts) (pv.member x))

-- the same classes, and members that are the same but for that, by the same numbers, and the same class `Function`
pub record DifferInSignaturesAlone (texts : List Text) (k l : Classes) : Type 0 where
  pub classes : rows_of texts k ≡ rows_of texts l
  pub members : map (loose_member texts) k.members.items ≡ map (loose_member texts) l.members.items
  pub function : k.function.0 ≡ l.function.0
