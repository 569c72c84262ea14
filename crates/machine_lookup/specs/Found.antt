-- What a table says of the members of a program.
use Rattle.std.specs.Prelude.{◌≡◌, ℕ, List, [], ◌∷◌, Option, Some, IfSome}
use Rattle.dart_ir.specs.declared.class.Role.TheVariants.{Method, Getter, Setter}
use Rattle.core_program.specs.Program.{Program}
use Rattle.evaluation.specs.Classes.{member}
use Rattle.machine_lookup.specs.declared.linked.Found.{Found}
use Rattle.machine_lookup.specs.declared.shapes.Reads.{Reads}
use Rattle.machine_lookup.specs.declared.shapes.Reads.TheVariants as r
use Rattle.machine_lookup.specs.Shapes.{native_of_member, site_of_member, Reading, a_field, a_native, reading_of_member, writing_of_member}

abbrev pub reading : Reads → Reading
reading (r.Field i) = a_field i
reading (r.Native id) = a_native id

-- What it says of a name on objects of a class is what the chain of the class says. `None` of what a function is says nothing.
pub record IsFound (p : Program ℕ) (f : Found) : Type 0 where
  pub method : f.method ≡ member p (Some f.class) f.name Method
  pub getter : f.getter ≡ member p (Some f.class) f.name Getter
  pub setter : f.setter ≡ member p (Some f.class) f.name Setter
  pub operand : f.operand ≡ site_of_member p f.method
  pub operator : IfSome f.operator (λ id. native_of_member p f.method ≡ Some id)
  pub reads : IfSome f.reads (λ x. reading_of_member p f.getter ≡ Some (reading x))
  pub writes : IfSome f.writes (λ i. writing_of_member p f.setter ≡ Some i)

-- Each slot that is filled says so.
abbrev pub AreFound : Program ℕ → List (Option Found) → Type 0
AreFound p [] = Unit {0}
AreFound p (slot ∷ slots) = IfSome slot (IsFound p) × AreFound p slots
