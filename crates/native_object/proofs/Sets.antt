-- What is seen of an element, and of lists of types.
use Rattle.std.proofs.Common.{◌≡◌, ◌∙◌, ℕ, List, [], ◌∷◌, suc, length, refl, ap, Bool, true, false}
use Rattle.std.specs.Prelude.{◌&&◌}
use Rattle.std.proofs.lemmas.Option.{slice_get-map, slice_get-get_or, slice_get_past}
use Rattle.dart_ir.specs.declared.types.TypeRef.{TypeRef}
use Rattle.dart_ir.specs.Ty.{ty, tys}
use Rattle.native_object.specs.Identity.{same_type, same_types}

pub ruleset look_ups = (slice_get-map, slice_get-get_or, slice_get_past)

not_both : (b : Bool) → (b && false) ≡ false
not_both true = refl
not_both false = refl

-- lists of different lengths are not the same
pub differ : (ts us : List TypeRef) → (length ts ≡ length us → ⊥) → same_types (tys ts) (tys us) ≡ false
differ [] [] other = absurd (other refl)
differ [] (u ∷ us) other = refl
differ (t ∷ ts) [] other = refl
differ (t ∷ ts) (u ∷ us) other =
    ap (λ (b : Bool). same_type (ty t) (ty u) && b) (differ ts us (λ e. other (ap suc e))) ∙ not_both (same_type (ty t) (ty u))
