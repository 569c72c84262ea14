-- Slots behind a base.
use Rattle.std.proofs.Common.{◌≡◌, ℕ, zero, suc, ◌+◌, List, [], ◌∷◌, drop, slice_set, refl, ap, ◌∙◌, arith}

pub drop_set : {A : Type 0} (b x i : ℕ) (xs : List A) (v : A) → i ≡ b + x → drop b (slice_set xs i v) ≡ slice_set (drop b xs) x v
drop_set zero x i xs v e = ap (λ k. slice_set xs k v) (let f : i ≡ x = omega arith in f)
drop_set (suc b) x i [] v e = refl
drop_set (suc b) x i (y ∷ ys) v e =
    ap (λ k. drop (suc b) (slice_set (y ∷ ys) k v)) (let f : i ≡ suc (b + x) = omega arith in f) ∙ drop_set b x (b + x) ys v refl
