-- What a search by a key finds in a list that is in order, and what a stable sort leaves of a key.
use Rattle.std.proofs.Common.{◌≡◌, ◌∙◌, ℕ, zero, suc, ◌+◌, ◌-◌, ◌<◌, ◌≤◌, Bool, true, false, not, cond, eqb, ltb, leb, ◌&&◌, ◌||◌, List, [], ◌∷◌, length, get_or, take, drop, Some, refl, sym, ap, inl, inr, arith}
use Rattle.std.specs.List.{filter, find, list_any}
use Rattle.std.specs.List.Sorted.{IsPermutation, IsPartitionPoint, IsStableBy, ties}
use Rattle.std.specs.Ordering.{is_lt, nat_cmp}
use Rattle.std.proofs.lemmas.Bool.{true≢false, cases_Bool, ltb-true, ltb-false, leb-true, leb-false, eqb-true, eq-eqb, ne_eqb, or_parts, false_from_ne_true}
use Rattle.std.proofs.lemmas.Bool.Decides.{nat_tests}
use Rattle.std.proofs.lemmas.List.Elements.{filter_agree}
use Rattle.std.proofs.lemmas.List.Folds.{Any-from_list_any, list_any_at}
use Rattle.std.proofs.lemmas.List.Sorted.{IsPermutation-sym, Contains-permutation}

pub filter_none : {X : Type 0} (p : X → Bool) (xs : List X) → list_any p xs ≡ false → filter p xs ≡ []
filter_none p [] h = refl
filter_none p (x ∷ xs) h =
    let parts = or_parts (p x) (list_any p xs) h in
    ap (λ b. cond b (x ∷ filter p xs) (filter p xs)) parts.0 ∙ filter_none p xs parts.1

not_empty : {X : Type 0} (x : X) (xs : List X) → not (eqb (length (x ∷ xs)) 0) ≡ true
not_empty x xs = ap not (ne_eqb (suc (length xs)) 0 (λ e. omega arith))

-- whether a filter keeps anything
pub any_kept : {X : Type 0} (p : X → Bool) (xs : List X) → not (eqb (length (filter p xs)) 0) ≡ list_any p xs
any_kept p [] = refl
any_kept p (x ∷ xs) = elim (cases_Bool (p x)) [
  | inl holds ↦
      ap (λ b. not (eqb (length (cond b (x ∷ filter p xs) (filter p xs))) 0)) holds ∙ not_empty x (filter p xs) ∙ sym (ap (λ b. b || list_any p xs) holds)
  | inr fails ↦ ap (λ b. not (eqb (length (cond b (x ∷ filter p xs) (filter p xs))) 0)) fails ∙ any_kept p xs ∙ sym (ap (λ b. b || list_any p xs) fails)
]

-- what passes is the part between two places
pub filter_part : {X : Type 0} (p : X → Bool) (xs : List X) (lo count : ℕ) → lo + count ≤ length xs
    → ((k : ℕ) (d : X) → k < lo → p (get_or xs k d) ≡ false)
    → ((k : ℕ) (d : X) → lo ≤ k → k < lo + count → p (get_or xs k d) ≡ true)
    → ((k : ℕ) (d : X) → lo + count ≤ k → k < length xs → p (get_or xs k d) ≡ false)
    → filter p xs ≡ take count (drop lo xs)
filter_part p [] zero zero inside before within after = refl
filter_part p [] zero (suc count) inside before within after = absurd (omega arith)
filter_part p [] (suc lo) count inside before within after = absurd (omega arith)
filter_part p (x ∷ xs) zero zero inside before within after =
    ap (λ b. cond b (x ∷ filter p xs) (filter p xs)) (after 0 x (omega arith) (omega arith))
    ∙ filter_part p xs zero zero (omega arith) (λ k d l. absurd (omega arith)) (λ k d l h. absurd (omega arith)) (λ k d l h. after (suc k) d (omega arith) (omega arith))
filter_part p (x ∷ xs) zero (suc count) inside before within after =
    ap (λ b. cond b (x ∷ filter p xs) (filter p xs)) (within 0 x (omega arith) (omega arith))
    ∙ ap (λ ys. x ∷ ys) (filter_part p xs zero count (omega arith) (λ k d l. absurd (omega arith))
    (λ k d l h. within (suc k) d (omega arith) (omega arith)) (λ k d l h. after (suc k) d (omega arith) (omega arith)))
filter_part p (x ∷ xs) (suc lo) count inside before within after =
    ap (λ b. cond b (x ∷ filter p xs) (filter p xs)) (before 0 x (omega arith))
    ∙ filter_part p xs lo count (omega arith) (λ k d l. before (suc k) d (omega arith))
    (λ k d l h. within (suc k) d (omega arith) (omega arith)) (λ k d l h. after (suc k) d (omega arith) (omega arith))

module _ {X : Type 0} (n : X → ℕ) (key : ℕ) where
  -- the first place of a key is not behind its end
  pub ordered : (xs : List X) (lo hi : ℕ) → lo ≤ length xs
      → IsPartitionPoint (λ y. ltb (n y) key ≡ true) (λ y. ltb (n y) key ≡ false) xs lo
      → IsPartitionPoint (λ y. leb (n y) key ≡ true) (λ y. leb (n y) key ≡ false) xs hi → lo ≤ hi
  ordered [] lo hi inside first last = omega arith
  ordered (x ∷ xs) lo hi inside first last = elim (cases_Bool (leb lo hi)) [
    | inl holds ↦ leb-true lo hi holds
    | inr fails ↦
        let behind = leb-false lo hi fails in
        let below = ltb-true _ _ (first.0 hi x (omega arith) behind) in
        let above = leb-false _ _ (last.1 hi x (omega arith) (omega arith)) in
        absurd (omega arith)
  ]

  -- the items of a key are those between the two places
  pub found : (xs : List X) (lo hi : ℕ) → lo ≤ hi → hi ≤ length xs
      → IsPartitionPoint (λ y. ltb (n y) key ≡ true) (λ y. ltb (n y) key ≡ false) xs lo
      → IsPartitionPoint (λ y. leb (n y) key ≡ true) (λ y. leb (n y) key ≡ false) xs hi
      → filter (λ y. eqb (n y) key) xs ≡ take (hi - lo) (drop lo xs)
  found xs lo hi up inside first last = filter_part (λ y. eqb (n y) key) xs lo (hi - lo) (omega arith)
      (λ k d l. let below = ltb-true _ _ (first.0 k d (omega arith) l) in ne_eqb (n (get_or xs k d)) key (λ e. omega arith))
      (λ k d l h.
      let least = ltb-false _ _ (first.1 k d l (omega arith)) in
      let most = leb-true _ _ (last.0 k d (omega arith) (omega arith)) in
      eq-eqb (n (get_or xs k d)) key (omega arith))
      (λ k d l h. let above = leb-false _ _ (last.1 k d (omega arith) h) in ne_eqb (n (get_or xs k d)) key (λ e. omega arith))

tied : (a b : ℕ) → (not (is_lt (nat_cmp a b)) && not (is_lt (nat_cmp b a))) ≡ eqb b a
tied a b = grind (arith, nat_tests)

-- items of one key stand as they stood
pub kept_by_key : {X : Type 0} (n : X → ℕ) (key : ℕ) (xs ys : List X) → IsPermutation xs ys → IsStableBy (λ x y. is_lt (nat_cmp (n x) (n y))) xs ys
    → filter (λ y. eqb (n y) key) ys ≡ filter (λ y. eqb (n y) key) xs
kept_by_key {X} n key xs ys moved stable =
    let p : X → Bool = λ y. eqb (n y) key in
    elim (cases_Bool (list_any p xs)) [
      | inl some ↦
          let one = Any-from_list_any p xs some in
          let same = eqb-true (n one.1) key one.4 in
          let agrees : (y : X) → p y ≡ ties (λ x y. is_lt (nat_cmp (n x) (n y))) one.1 y = λ y. sym (tied (n one.1) (n y) ∙ ap (eqb (n y)) same) in
          filter_agree p (ties (λ x y. is_lt (nat_cmp (n x) (n y))) one.1) agrees ys ∙ stable one.1 ∙ sym (filter_agree p (ties (λ x y. is_lt (nat_cmp (n x) (n y))) one.1) agrees xs)
      | inr none ↦
          let gone : list_any p ys ≡ false = false_from_ne_true (list_any p ys) (λ some.
          let one = Any-from_list_any p ys some in
          let back = Contains-permutation ys xs one.1 (IsPermutation-sym xs ys moved) (one.0, one.2, one.3) in
          true≢false (sym (list_any_at p xs back.0 one.1 back.1 (ap p back.2 ∙ one.4)) ∙ none)) in
          filter_none p ys gone ∙ sym (filter_none p xs none)
    ]

-- what is any or first among those that pass
pub any_filter : {X : Type 0} (p q : X → Bool) (xs : List X) → list_any q (filter p xs) ≡ list_any (λ x. p x && q x) xs
any_filter p q [] = refl
any_filter p q (x ∷ xs) = elim (cases_Bool (p x)) [
  | inl holds ↦
      ap (λ b. list_any q (cond b (x ∷ filter p xs) (filter p xs))) holds ∙ ap (λ b. q x || b) (any_filter p q xs)
      ∙ sym (ap (λ b. (b && q x) || list_any (λ x. p x && q x) xs) holds)
  | inr fails ↦
      ap (λ b. list_any q (cond b (x ∷ filter p xs) (filter p xs))) fails ∙ any_filter p q xs ∙ sym (ap (λ b. (b && q x) || list_any (λ x. p x && q x) xs) fails)
]

pub find_filter : {X : Type 0} (p q : X → Bool) (xs : List X) → find q (filter p xs) ≡ find (λ x. p x && q x) xs
find_filter p q [] = refl
find_filter p q (x ∷ xs) = elim (cases_Bool (p x)) [
  | inl holds ↦
      ap (λ b. find q (cond b (x ∷ filter p xs) (filter p xs))) holds ∙ ap (λ r. cond (q x) (Some x) r) (find_filter p q xs)
      ∙ sym (ap (λ b. cond (b && q x) (Some x) (find (λ x. p x && q x) xs)) holds)
  | inr fails ↦
      ap (λ b. find q (cond b (x ∷ filter p xs) (filter p xs))) fails ∙ find_filter p q xs ∙ sym (ap (λ b. cond (b && q x) (Some x) (find (λ x. p x && q x) xs)) fails)
]
