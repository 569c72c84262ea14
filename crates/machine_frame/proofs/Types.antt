-- The type arguments of bodies, the last of which are those of the body at work.
use Rattle.std.specs.Global.{Vec}
use Rattle.std.proofs.Common.{◌≡◌, ◌-◌, List, [], ◌∷◌, ◌++◌, length, map, true, Some, refl, ap, ◌∙◌, arith, length-append}
use Rattle.std.specs.Prelude.{slice_get}
use Rattle.dart_ir.specs.declared.types.TypeRef.{TypeRef}
use Rattle.dart_ir.specs.Ty.{ty}
use Rattle.machine_frame.specs.Frames.{given_types, types_of, types_under}
use Rattle.machine_frame.proofs.Rows.{but_push, but_none}

pub got_last : {A : Type 0} (xs : List A) (x : A) → slice_get (xs ++ x ∷ []) (length xs) ≡ Some x
got_last [] x = refl
got_last (y ∷ xs) x = got_last xs x

pub long : {A : Type 0} (xs : List A) (x : A) → length (xs ++ x ∷ []) - 1 ≡ length xs
long xs x = omega (arith, length-append xs (x ∷ []))

pub own_pushed : (all : List (Vec TypeRef)) (ts : Vec TypeRef) → types_of true (all ++ ts ∷ []) ≡ map ty ts.items
own_pushed all ts = ap (λ n. given_types (slice_get (all ++ ts ∷ []) n)) (long all ts) ∙ ap given_types (got_last all ts)

pub under_pushed : (all : List (Vec TypeRef)) (ts : Vec TypeRef) → types_under true (all ++ ts ∷ []) ≡ all
under_pushed all ts = but_push 0 all ts ∙ but_none all

pub none_given : (ts : List TypeRef) → length ts ≡ 0 → [] ≡ map ty ts
none_given [] e = refl
none_given (t ∷ ts) e = absurd (omega (arith, e))
