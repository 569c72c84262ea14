-- Where a text stands in another, from a place on.
use Rattle.std.proofs.Common.{◌≡◌, ℕ, zero, suc, ◌+◌, ◌≤◌, List, [], ◌∷◌, length, drop, Bool, true, false, Option, Some, None, refl, sym, ap, ◌∙◌, arith, add-one, if◌then◌else◌}
use Rattle.std.specs.Prelude.{option_map, nat_eq}
use Rattle.std.specs.List.{starts_with}
use Rattle.native_text.specs.Text.{first_place}

at_once : (p s : List ℕ) → starts_with nat_eq s p ≡ true → first_place p s ≡ Some 0
at_once p [] e = ap (λ (b : Bool). if b then Some 0 else None) e
at_once p (u ∷ s) e = ap (λ (b : Bool). if b then Some 0 else option_map suc (first_place p s)) e

later : (p s : List ℕ) (i : ℕ) → starts_with nat_eq (drop i s) p ≡ false → option_map suc (first_place p (drop (suc i) s)) ≡ first_place p (drop i s)
later p [] zero e = ap (λ (b : Bool). option_map suc (if b then Some 0 else None)) e ∙ sym (ap (λ (b : Bool). if b then Some 0 else None) e)
later p [] (suc i) e = ap (λ (b : Bool). option_map suc (if b then Some 0 else None)) e ∙ sym (ap (λ (b : Bool). if b then Some 0 else None) e)
later p (u ∷ s) zero e = sym (ap (λ (b : Bool). if b then Some 0 else option_map suc (first_place p s)) e)
later p (u ∷ s) (suc i) e = later p s i e

one_more : (i : ℕ) (o : Option ℕ) → option_map (λ k. suc i + k) o ≡ option_map (λ k. i + k) (option_map suc o)
one_more i None = refl
one_more i (Some k) = let e : suc i + k ≡ i + suc k = omega arith in ap Some e

-- it stands there, and before it at no place
pub found : (p s : List ℕ) (i : ℕ) (b : Bool) → option_map (λ k. i + k) (first_place p (drop i s)) ≡ first_place p s → b ≡ starts_with nat_eq (drop i s) p → b ≡ true → Some i ≡ first_place p s
found p s i b before there holds =
    let e : i ≡ i + 0 = omega arith in
    ap Some e ∙ sym (ap (option_map (λ k. i + k)) (at_once p (drop i s) (sym there ∙ holds))) ∙ before

-- it stands at no place up to there
pub not_found : (p s : List ℕ) (i : ℕ) (b : Bool) → option_map (λ k. i + k) (first_place p (drop i s)) ≡ first_place p s → b ≡ starts_with nat_eq (drop i s) p → b ≡ false → option_map (λ k. (i + 1) + k) (first_place p (drop (i + 1) s)) ≡ first_place p s
not_found p s i b before there fails =
    rw add-one (one_more i (first_place p (drop (suc i) s)) ∙ ap (option_map (λ k. i + k)) (later p s i (sym there ∙ fails)) ∙ before)

-- no more is left
over : (s : List ℕ) (i : ℕ) → length s ≤ i → drop i s ≡ []
over [] zero h = refl
over [] (suc i) h = refl
over (u ∷ s) zero h = absurd (omega (arith, h))
over (u ∷ s) (suc i) h = over s i (omega (arith, h))

-- a text without units stands at the end
pub at_end : (p s : List ℕ) (i n : ℕ) → i ≡ n → length s ≤ i → option_map (λ k. i + k) (first_place p (drop i s)) ≡ first_place p s → p ≡ [] → Some n ≡ first_place p s
at_end p s i n same h before empty =
    let e : n ≡ i + 0 = omega (arith, same) in
    let first : first_place p (drop i s) ≡ Some 0 = ap (first_place p) (over s i h) ∙ ap (λ (q : List ℕ). first_place q []) empty in
    ap Some e ∙ sym (ap (option_map (λ k. i + k)) first) ∙ before

none : (p : List ℕ) → (p ≡ [] → ⊥) → first_place p [] ≡ None
none [] some = absurd (some refl)
none (u ∷ p) some = refl

-- another one stands nowhere
pub nowhere : (p s : List ℕ) (i : ℕ) → length s ≤ i → option_map (λ k. i + k) (first_place p (drop i s)) ≡ first_place p s → (p ≡ [] → ⊥) → None ≡ first_place p s
nowhere p s i h before some =
    let first : first_place p (drop i s) ≡ None = ap (first_place p) (over s i h) ∙ none p some in
    sym (ap (option_map (λ k. i + k)) first) ∙ before
