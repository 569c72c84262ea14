-- What the type arguments of a literal ask for.
use Rattle.std.proofs.Common.{◌≡◌, ℕ, zero, suc, List, [], ◌∷◌, Some, None, false, refl, ap, slice_get}
use Rattle.dart_ir.specs.declared.types.TypeRef.{TypeRef}
use Rattle.translation.specs.Surroundings.{Ty}
use Rattle.translation.specs.Expressions as e
use Rattle.translation.specs.Walk as w
use Rattle.lower_leaf.specs.Around.{Around, ty, types}

abbrev pub kept : Ty → w.Asked
kept of = record { of = Some of; annotated = false }

pub asked_none : (a : Around) (n : ℕ) (xs : List TypeRef) → slice_get xs n ≡ None → e.asked_at n (types a xs) ≡ w.unasked
asked_none a zero [] h = refl
asked_none a (suc n) [] h = refl
asked_none a zero (x ∷ xs) h = cc
asked_none a (suc n) (x ∷ xs) h = asked_none a n xs h

pub asked_some : (a : Around) (n : ℕ) (xs : List TypeRef) (x : TypeRef) → slice_get xs n ≡ Some x → e.asked_at n (types a xs) ≡ kept (ty a x)
asked_some a zero [] x h = cc
asked_some a (suc n) [] x h = cc
asked_some a zero (z ∷ zs) x h = let same : z ≡ x = cc in ap (λ (v : TypeRef). kept (ty a v)) same
asked_some a (suc n) (z ∷ zs) x h = asked_some a n zs x h
