-- The items of a list from an index on.
use Rattle.std.proofs.Common.{◌≡◌, ℕ, suc, ◌+◌, ◌<◌, ◌≤◌, List, [], ◌∷◌, length, get_or, drop, sym, ap, ◌∙◌, subst, add-one, drop-cons}
use Rattle.std.proofs.lemmas.List.{drop_all}

pub rest_at : {X : Type 0} (all ys : List X) (i : ℕ) (x : X) → ys ≡ all → i < length ys → x ≡ get_or ys i x → drop i all ≡ x ∷ drop (i + 1) all
rest_at {X} all ys i x same below is =
    drop-cons all i x (let P : List X → Type 0 = λ l. i < length l in subst P same below)
    ∙ ap (λ (z : X). z ∷ drop (suc i) all) (sym (is ∙ ap (λ (l : List X). get_or l i x) same)) ∙ ap (λ (n : ℕ). x ∷ drop n all) (sym (add-one i))

pub none_at : {X : Type 0} (all ys : List X) (i : ℕ) → ys ≡ all → length ys ≤ i → drop i all ≡ []
none_at {X} all ys i same past = drop_all i all (let P : List X → Type 0 = λ l. length l ≤ i in subst P same past)
