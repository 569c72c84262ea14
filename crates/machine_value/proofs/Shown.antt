-- The part of a name before its mark.
use Rattle.std.proofs.Common.{◌≡◌, ◌≢◌, ℕ, ◌+◌, ◌<◌, ◌≤◌, Bool, cond, nat_eq, not, List, [], ◌∷◌, ◌++◌, length, get_or, drop, take_while, sym, ap, ◌∙◌, append_assoc, append-nil}
use Rattle.std.proofs.lemmas.Bool.{eq-eqb, ne_eqb}
use Rattle.std.proofs.lemmas.List.{at_drop_more, at_drop_all}
use Rattle.std.proofs.lemmas.List.Sums.{take_while-cons}

abbrev pub unmarked : ℕ → Bool
unmarked unit = not (nat_eq unit 64)

abbrev pub rest : List ℕ → ℕ → List ℕ
rest s i = take_while unmarked (drop i s)

first_rest : (u s : List ℕ) (i : ℕ) → i < length s
    → u ++ rest s i ≡ u ++ cond (unmarked (get_or s i 0)) (get_or s i 0 ∷ rest s (i + 1)) []
first_rest u s i h =
    at_drop_more (λ l. u ++ take_while unmarked l) s i 0 h
    ∙ ap (λ l. u ++ l) (take_while-cons unmarked (get_or s i 0) (drop (i + 1) s))

pub shown_more : (u s : List ℕ) (i : ℕ) → i < length s → get_or s i 0 ≢ 64 → (u ++ get_or s i 0 ∷ []) ++ rest s (i + 1) ≡ u ++ rest s i
shown_more u s i h k =
    append_assoc u (get_or s i 0 ∷ []) (rest s (i + 1))
    ∙ ap (λ b. u ++ cond b (get_or s i 0 ∷ rest s (i + 1)) []) (sym (ap not (ne_eqb (get_or s i 0) 64 k)))
    ∙ sym (first_rest u s i h)

pub shown_stops : (u s : List ℕ) (i : ℕ) → i < length s → get_or s i 0 ≡ 64 → u ++ rest s i ≡ u
shown_stops u s i h k =
    first_rest u s i h ∙ ap (λ b. u ++ cond b (get_or s i 0 ∷ rest s (i + 1)) []) (ap not (eq-eqb (get_or s i 0) 64 k)) ∙ append-nil u

pub shown_ends : (u s : List ℕ) (i : ℕ) → length s ≤ i → u ++ rest s i ≡ u
shown_ends u s i h = at_drop_all (λ l. u ++ take_while unmarked l) s i h ∙ append-nil u
