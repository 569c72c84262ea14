-- The items of a list from an index on.
use Rattle.std.proofs.Common.{◌≡◌, ℕ, suc, ◌+◌, ◌<◌, ◌≤◌, Bool, ◌||◌, refl, List, [], ◌∷◌, ◌++◌, map, length, get_or}
use Rattle.std.proofs.Common.{drop, sym, ap, ◌∙◌, subst, add-one, drop-cons, append_assoc, append-nil}
use Rattle.std.specs.List.{list_any}
use Rattle.std.proofs.lemmas.List.{drop_all}

pub rest_at : {X : Type 0} (all ys : List X) (i : ℕ) (x : X) → ys ≡ all → i < length ys → x ≡ get_or ys i x → drop i all ≡ x ∷ drop (i + 1) all
rest_at {X} all ys i x same below is =
    drop-cons all i x (let P : List X → Type 0 = λ l. i < length l in subst P same below)
    ∙ ap (λ (z : X). z ∷ drop (suc i) all) (sym (is ∙ ap (λ (l : List X). get_or l i x) same)) ∙ ap (λ (n : ℕ). x ∷ drop n all) (sym (add-one i))

pub none_at : {X : Type 0} (all ys : List X) (i : ℕ) → ys ≡ all → length ys ≤ i → drop i all ≡ []
none_at {X} all ys i same past = drop_all i all (let P : List X → Type 0 = λ l. length l ≤ i in subst P same past)

-- a step of a loop that puts what an item gives behind what was found
pub step : {X A B : Type 0} (see : B → A) (rest : List X → List A) (one : X → List A) → ((x : X) (xs : List X) → rest (x ∷ xs) ≡ one x ++ rest xs) →
    (all ys : List X) (i : ℕ) (x : X) (found found2 : List B) (whole : List A) → ys ≡ all → i < length ys → x ≡ get_or ys i x →
    map see found2 ≡ map see found ++ one x → map see found ++ rest (drop i all) ≡ whole → map see found2 ++ rest (drop (i + 1) all) ≡ whole
step {A = A} see rest one law all ys i x found found2 whole same below is added done =
    ap (λ (l : List A). l ++ rest (drop (i + 1) all)) added
    ∙ append_assoc (map see found) (one x) (rest (drop (i + 1) all))
    ∙ ap (λ (l : List A). map see found ++ l) (sym (ap rest (rest_at all ys i x same below is) ∙ law x (drop (i + 1) all)))
    ∙ done

-- behind the last item
pub finish : {X A B : Type 0} (see : B → A) (rest : List X → List A) → rest [] ≡ [] → (all ys : List X) (i : ℕ) (found : List B) (whole : List A) →
    ys ≡ all → length ys ≤ i → map see found ++ rest (drop i all) ≡ whole → map see found ≡ whole
finish {A = A} see rest none all ys i found whole same past done =
    sym (append-nil (map see found)) ∙ ap (λ (l : List A). map see found ++ l) (sym (ap rest (none_at all ys i same past) ∙ none)) ∙ done

-- whether one of the items passes a test, with one item more
pub any-more : {X A : Type 0} (p : A → Bool) (see : X → A) (xs : List X) (i : ℕ) (x : X) → i < length xs → x ≡ get_or xs i x
    → list_any p (map see (drop i xs)) ≡ (p (see x) || list_any p (map see (drop (i + 1) xs)))
any-more {X} p see xs i x below is = ap (λ (l : List X). list_any p (map see l)) (rest_at xs xs i x refl below is)
