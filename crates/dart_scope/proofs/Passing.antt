-- A search through a list, item by item.
use Rattle.std.proofs.Common.{◌≡◌, ◌∙◌, ℕ, ◌+◌, ◌<◌, ◌≤◌, Bool, true, false, ◌||◌, List, length, get_or, drop, sym, ap}
use Rattle.std.specs.List.{list_any}
use Rattle.std.proofs.lemmas.List.{at_drop_more, at_drop_all}

module _ {X : Type 0} (p : X → Bool) (xs : List X) (i : ℕ) where
  split : (d : X) → i < length xs → list_any p (drop i xs) ≡ (p (get_or xs i d) || list_any p (drop (i + 1) xs))
  split d below = at_drop_more (list_any p) xs i d below

  -- an item that fails leaves the search to the others
  pub any_passed : (d : X) → i < length xs → p (get_or xs i d) ≡ false → list_any p (drop i xs) ≡ list_any p xs
      → list_any p (drop (i + 1) xs) ≡ list_any p xs
  any_passed d below fails left = sym (split d below ∙ ap (λ (b : Bool). b || list_any p (drop (i + 1) xs)) fails) ∙ left

  -- one that holds ends it
  pub any_met : (d : X) → i < length xs → p (get_or xs i d) ≡ true → list_any p (drop i xs) ≡ list_any p xs → list_any p xs ≡ true
  any_met d below holds left = sym left ∙ split d below ∙ ap (λ (b : Bool). b || list_any p (drop (i + 1) xs)) holds

  -- none is left
  pub none_met : length xs ≤ i → list_any p (drop i xs) ≡ list_any p xs → list_any p xs ≡ false
  none_met past left = sym left ∙ at_drop_all (list_any p) xs i past
