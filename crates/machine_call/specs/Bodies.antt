-- Functions that answer null as they are called, and which value is null.
use Rattle.std.specs.Prelude.{ℕ, List, [], ◌∷◌, Bool, true, false, ◌&&◌, not, Option, Some, None}
use Rattle.core_program.specs.Program.{Function}
use Rattle.dart_ir.specs.declared.value.Value.{Value}
use Rattle.dart_ir.specs.declared.value.Value.TheVariants.{Null}
use Rattle.evaluation.specs.Parts.{is_given}

abbrev pub is_nil : {A : Type 0} → List A → Bool
is_nil [] = true
is_nil (x ∷ xs) = false

-- one that isn't there, or that has neither a body nor a parameter
abbrev pub answers_null : Option (Function ℕ) → Bool
answers_null None = true
answers_null (Some f) = not (is_given f.body) && is_nil f.parameters

abbrev pub is_null : Value → Bool
is_null Null = true
is_null v = false
