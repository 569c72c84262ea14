-- Methods that were taken off objects.
use Rattle.std.proofs.Common.{◌≡◌, ℕ, zero, suc, ◌-◌, List, Bool, Option, Some, None, refl, sym, ap, ◌∙◌, arith, eq-eqb}
use Rattle.std.specs.Prelude.{◌&&◌, ◌==◌}
use Rattle.dart_ir.specs.declared.value.Value.{Value}
use Rattle.dart_store.specs.Heap.{Heap}
use Rattle.native_object.specs.Identity.{same_methods, same_within, same_identity, identity, method_at}

both : (same : Value → Value → Bool) (plain : Bool) (o u : Option (Value × ℕ)) (p q : Value × ℕ) → Some p ≡ o → Some q ≡ u → same_methods same plain o u ≡ (p.1 == q.1 && same p.0 q.0)
both same plain o u p q e f =
    ap (λ (k : Option (Value × ℕ)). same_methods same plain k u) (sym e) ∙ ap (same_methods same plain (Some p)) (sym f)

-- two values that are one method are the same where the receivers are
pub next : (n : ℕ) (literals : List (List ℕ)) (h : Heap) (a b : Value) (p q : Value × ℕ) → Some p ≡ method_at h a → Some q ≡ method_at h b → p.1 ≡ q.1 → (n ≡ 0 → ⊥) → same_within (suc (n - 1)) literals h p.0 q.0 ≡ same_within (suc n) literals h a b
next zero literals h a b p q first second same some = absurd (some refl)
next (suc m) literals h a b p q first second same some =
    let less : suc m - 1 ≡ m = omega arith in
    let plain = same_identity (identity literals h a) (identity literals h b) in
    let whole = both (same_within (suc m) literals h) plain (method_at h a) (method_at h b) p q first second in
    ap (λ (k : ℕ). same_within (suc k) literals h p.0 q.0) less
    ∙ sym (whole ∙ ap (λ (t : Bool). t && same_within (suc m) literals h p.0 q.0) (eq-eqb p.1 q.1 same))
