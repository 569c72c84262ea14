-- What a machine's table of functions has for declarations that are no functions is what is left of it without annotations.
use Rattle.std.proofs.Common.{◌≡◌, refl, List, [], ◌∷◌, map}
use Rattle.dart_ir.specs.Ty.{TyOf}
use Rattle.core_program.specs.declared.program.FunctionKind.{FunctionKind}
use Rattle.core_program.specs.declared.program.FunctionKind.TheVariants.{Plain, Inner, Generative, Factory, Absent}
use Rattle.core_program.specs.Alike as alike
use Rattle.core_program.specs.Program as p
use Rattle.core_program.specs.Stripped as stripped
use Rattle.lower_core.specs.Runnable as runnable

-- a program without what annotations ask for, columns and marks, whatever its names are
abbrev pub bare_of : {N : Type 0} → p.Program N → p.Program N
bare_of q = alike.program (stripped.program q)

module _ {N : Type 0} where
  signature_bare : (kind : FunctionKind) (of : TyOf N) → stripped.loose (runnable.signature_of kind of) ≡ runnable.signature_of kind (stripped.loose of)
  signature_bare Plain of = refl
  signature_bare Inner of = refl
  signature_bare Generative of = refl
  signature_bare Factory of = refl
  signature_bare Absent of = refl

  functions_bare : (xs : List (p.Function N)) → map alike.function (map stripped.function (map runnable.function xs)) ≡ map runnable.function (map alike.function (map stripped.function xs))
  functions_bare [] = refl
  functions_bare (x ∷ xs) = λ i. record (alike.function (stripped.function x)) { signature = signature_bare x.kind x.signature i } ∷ functions_bare xs i

  pub program_bare : (q : p.Program N) → bare_of (runnable.program q) ≡ runnable.program (bare_of q)
  program_bare q = λ i. record (bare_of q) { functions = functions_bare q.functions i }
