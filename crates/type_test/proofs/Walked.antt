-- A walk along a list that stops at the first entry that fails.
use Rattle.std.proofs.Common.{◌≡◌, ℕ, suc, ◌+◌, ◌<◌, ◌≤◌, List, [], ◌∷◌, length, drop, get_or, Bool, true, false, ◌&&◌, refl, sym, ap, ◌∙◌, add-one}
use Rattle.dart_type.proofs.Paired.{drop_at, drop_past}

rest_of : {X : Type 0} (xs : List X) (j : ℕ) (x : X) → j < length xs → x ≡ get_or xs j x → drop j xs ≡ x ∷ drop (j + 1) xs
rest_of xs j x h e = sym (ap (λ m. x ∷ drop m xs) (add-one j) ∙ ap (λ y. y ∷ drop (suc j) xs) e ∙ sym (drop_at xs j x h))

module _ (X : Type 0) (P : X → Bool) (F : List X → Bool) (more : (x : X) (xs : List X) → F (x ∷ xs) ≡ (P x && F xs)) (xs : List X) (j : ℕ) (inv : F xs ≡ F (drop j xs)) where
  one : (x : X) → j < length xs → x ≡ get_or xs j x → (b : Bool) → P x ≡ b → F xs ≡ (b && F (drop (j + 1) xs))
  one x h e b f = inv ∙ ap F (rest_of xs j x h e) ∙ more x (drop (j + 1) xs) ∙ ap (λ p. p && F (drop (j + 1) xs)) f

  pub passes : (x : X) → j < length xs → x ≡ get_or xs j x → P x ≡ true → F xs ≡ F (drop (j + 1) xs)
  passes x h e f = one x h e true f

  pub fails : (x : X) → j < length xs → x ≡ get_or xs j x → P x ≡ false → false ≡ F xs
  fails x h e f = sym (one x h e false f)

  pub ends : length xs ≤ j → F [] ≡ true → true ≡ F xs
  ends h e = sym (inv ∙ ap F (drop_past xs j h) ∙ e)
