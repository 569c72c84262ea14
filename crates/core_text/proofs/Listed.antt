-- What stands between brackets is a list that begins without a comma.
use Rattle.std.proofs.Common.{◌≡◌, ◌≤◌, List, [], ◌∷◌, ◌++◌, length, true, refl, subst, arith}
use Rattle.std.specs.Prelude.{codes}
use Rattle.dart_ir.specs.Ty.{tys, named_tys}
use Rattle.dart_ir.specs.declared.types.TypeRef.{TypeRef}
use Rattle.dart_ir.specs.declared.types.NamedType.{NamedType}
use Rattle.core_program.specs.declared.program.CoreProgram.{CoreProgram}
use Rattle.core_text.specs.Types.{arguments, optionals, named_types, listed, listed_named}

none_is_not_some : {A : Type 0} {P : Type 0} (s : List A) → s ≡ [] → 1 ≤ length s → P
none_is_not_some {A = A} s e h = let Q : List A → Type 0 = λ l. 1 ≤ length l in let k : 1 ≤ 0 = subst Q e h in absurd (omega arith)

pub arguments_listed : (x : CoreProgram) (ts s : List TypeRef) → s ≡ ts → 1 ≤ length s
    → codes "<" ++ (listed x true (tys ts) ++ codes ">") ≡ arguments x (tys ts)
arguments_listed x [] s e h = none_is_not_some s e h
arguments_listed x (t ∷ ts) s e h = refl

pub optionals_listed : (x : CoreProgram) (ts s : List TypeRef) → s ≡ ts → 1 ≤ length s
    → codes "[" ++ (listed x true (tys ts) ++ codes "]") ≡ optionals x (tys ts)
optionals_listed x [] s e h = none_is_not_some s e h
optionals_listed x (t ∷ ts) s e h = refl

pub named_types_listed : (x : CoreProgram) (ns s : List NamedType) → s ≡ ns → 1 ≤ length s
    → codes "{" ++ (listed_named x true (named_tys ns) ++ codes "}") ≡ named_types x (named_tys ns)
named_types_listed x [] s e h = none_is_not_some s e h
named_types_listed x (n ∷ ns) s e h = refl
