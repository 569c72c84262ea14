-- The elements of lists that are filtered, mapped and joined.
use Rattle.std.proofs.Common.{◌≡◌, ◌∙◌, ℕ, zero, suc, ◌+◌, ◌<◌, Bool, true, false, cond, List, [], ◌∷◌, ◌++◌, length, get_or, take, append_assoc, Option, Some, None, refl, sym, ap, subst, inl, inr, arith}
use Rattle.std.specs.List.{filter, filter_map, flat_map, cons_option, find, Contains}
use Rattle.std.proofs.lemmas.Bool.{cases_Bool}
use Rattle.std.proofs.lemmas.Option.{same_Some, none-some}
use Rattle.std.proofs.lemmas.List.Elements.{All-contains, All-contains_itself, All-filter, filter_passes, Contains-append_left, Contains-append_right, Contains-append_cases, filter_map-append}
use Rattle.std.proofs.lemmas.List.{append-nil, take_more}

pub among_here : {X : Type 0} (y x : X) (ys : List X) → y ≡ x → Contains (y ∷ ys) x
among_here y x ys e = (0, omega arith, e)

pub among_rest : {X : Type 0} (y x : X) (ys : List X) → Contains ys x → Contains (y ∷ ys) x
among_rest y x ys (k, l, e) = (suc k, omega arith, e)

-- an element that passes is kept
pub kept_in : {X : Type 0} (p : X → Bool) (xs : List X) (x : X) → Contains xs x → p x ≡ true → Contains (filter p xs) x
kept_in p [] x (k, l, e) h = absurd (omega arith)
kept_in p (y ∷ ys) x (zero, l, e) h =
    subst (λ zs. Contains zs x) (sym (ap (λ b. cond b (y ∷ filter p ys) (filter p ys)) (ap p e ∙ h))) (among_here y x (filter p ys) e)
kept_in p (y ∷ ys) x (suc k, l, e) h =
    let rest = kept_in p ys x (k, omega arith, e) h in
    elim (cases_Bool (p y)) [
      | inl holds ↦ subst (λ zs. Contains zs x) (sym (ap (λ b. cond b (y ∷ filter p ys) (filter p ys)) holds)) (among_rest y x (filter p ys) rest)
      | inr fails ↦ subst (λ zs. Contains zs x) (sym (ap (λ b. cond b (y ∷ filter p ys) (filter p ys)) fails)) rest
    ]

-- what is kept was there, and passes
pub kept_from : {X : Type 0} (p : X → Bool) (xs : List X) (x : X) → Contains (filter p xs) x → Contains xs x
kept_from p xs x h = All-contains (Contains xs) (filter p xs) x (All-filter p (Contains xs) xs (All-contains_itself xs)) h

pub kept_passes : {X : Type 0} (p : X → Bool) (xs : List X) (x : X) → Contains (filter p xs) x → p x ≡ true
kept_passes p xs x h = All-contains (λ x. p x ≡ true) (filter p xs) x (filter_passes p xs) h

-- an element that a map takes to y
pub record From {X Y : Type 0} (h : X → Option Y) (xs : List X) (y : Y) : Type 0 where
  pub item : X
  pub among : Contains xs item
  pub gives : h item ≡ Some y

further : {X Y : Type 0} (h : X → Option Y) (x : X) (xs : List X) (y : Y) → From h xs y → From h (x ∷ xs) y
further h x xs y f = record { item = f.item; among = among_rest x f.item xs f.among; gives = f.gives }

mapped_step : {X Y : Type 0} (h : X → Option Y) (x : X) (xs : List X) (y : Y) (rest : Contains (filter_map h xs) y → From h xs y)
    (o : Option Y) → h x ≡ o → Contains (cons_option o (filter_map h xs)) y → From h (x ∷ xs) y
mapped_step h x xs y rest None e c = further h x xs y (rest c)
mapped_step h x xs y rest (Some z) e (zero, l, same) = record { item = x; among = among_here x x xs refl; gives = e ∙ ap Some same }
mapped_step h x xs y rest (Some z) e (suc k, l, same) = further h x xs y (rest (k, omega arith, same))

pub mapped_from : {X Y : Type 0} (h : X → Option Y) (xs : List X) (y : Y) → Contains (filter_map h xs) y → From h xs y
mapped_from h [] y (k, l, e) = absurd (omega arith)
mapped_from h (x ∷ xs) y c = mapped_step h x xs y (mapped_from h xs y) (h x) refl c

mapped_more : {Y : Type 0} (o : Option Y) (ys : List Y) (y : Y) → Contains ys y → Contains (cons_option o ys) y
mapped_more None ys y c = c
mapped_more (Some z) ys y c = among_rest z y ys c

pub mapped_in : {X Y : Type 0} (h : X → Option Y) (xs : List X) (x : X) (y : Y) → Contains xs x → h x ≡ Some y → Contains (filter_map h xs) y
mapped_in h [] x y (k, l, e) g = absurd (omega arith)
mapped_in h (z ∷ zs) x y (zero, l, e) g =
    subst (λ o. Contains (cons_option o (filter_map h zs)) y) (sym (ap h e ∙ g)) (among_here y y (filter_map h zs) refl)
mapped_in h (z ∷ zs) x y (suc k, l, e) g = mapped_more (h z) (filter_map h zs) y (mapped_in h zs x y (k, omega arith, e) g)

-- an element whose piece has y
pub record FromPiece {X Y : Type 0} (f : X → List Y) (xs : List X) (y : Y) : Type 0 where
  pub item : X
  pub among : Contains xs item
  pub within : Contains (f item) y

pub joined_from : {X Y : Type 0} (f : X → List Y) (xs : List X) (y : Y) → Contains (flat_map f xs) y → FromPiece f xs y
joined_from f [] y (k, l, e) = absurd (omega arith)
joined_from f (x ∷ xs) y c = elim (Contains-append_cases (f x) (flat_map f xs) y c) [
  | inl here ↦ record { item = x; among = among_here x x xs refl; within = here }
  | inr there ↦
      let rest = joined_from f xs y there in
      record { item = rest.item; among = among_rest x rest.item xs rest.among; within = rest.within }
]

pub joined_in : {X Y : Type 0} (f : X → List Y) (xs : List X) (x : X) (y : Y) → Contains xs x → Contains (f x) y → Contains (flat_map f xs) y
joined_in f [] x y (k, l, e) c = absurd (omega arith)
joined_in f (z ∷ zs) x y (zero, l, e) c = Contains-append_left (f z) (flat_map f zs) y (subst (λ z. Contains (f z) y) (sym e) c)
joined_in f (z ∷ zs) x y (suc k, l, e) c = Contains-append_right (f z) (flat_map f zs) y (joined_in f zs x y (k, omega arith, e) c)

-- what is found is there and passes
pub record Found {X : Type 0} (p : X → Bool) (xs : List X) (x : X) : Type 0 where
  pub among : Contains xs x
  pub passes : p x ≡ true

pub found_some : {X : Type 0} (p : X → Bool) (xs : List X) (x : X) → find p xs ≡ Some x → Found p xs x
found_some p [] x h = absurd (none-some x h)
found_some p (y ∷ ys) x h = elim (cases_Bool (p y)) [
  | inl holds ↦
      let same = same_Some y x (sym (ap (λ b. cond b (Some y) (find p ys)) holds) ∙ h) in
      record { among = among_here y x ys same; passes = sym (ap p same) ∙ holds }
  | inr fails ↦
      let rest = found_some p ys x (sym (ap (λ b. cond b (Some y) (find p ys)) fails) ∙ h) in
      record { among = among_rest y x ys rest.among; passes = rest.passes }
]

fails_at : {X : Type 0} (p : X → Bool) (y : X) (ys : List X) (x : X) → p y ≡ false → (Contains ys x → p x ≡ false) → Contains (y ∷ ys) x → p x ≡ false
fails_at p y ys x fails rest (zero, l, e) = sym (ap p e) ∙ fails
fails_at p y ys x fails rest (suc k, l, e) = rest (k, omega arith, e)

-- where nothing is found nothing passes
pub found_none : {X : Type 0} (p : X → Bool) (xs : List X) → find p xs ≡ None → (x : X) → Contains xs x → p x ≡ false
found_none p [] h x (k, l, e) = absurd (omega arith)
found_none p (y ∷ ys) h x c = elim (cases_Bool (p y)) [
  | inl holds ↦ absurd (none-some y (sym h ∙ ap (λ b. cond b (Some y) (find p ys)) holds))
  | inr fails ↦ fails_at p y ys x fails (found_none p ys (sym (ap (λ b. cond b (Some y) (find p ys)) fails) ∙ h) x) c
]

-- one more element of a list that is mapped
pub taken_more : {X Y : Type 0} (h : X → Option Y) (xs : List X) (i : ℕ) (d : X) (y : Y) (old now : List Y) → now ≡ old ++ filter_map h (take i xs)
    → i < length xs → h (get_or xs i d) ≡ Some y → now ++ y ∷ [] ≡ old ++ filter_map h (take (i + 1) xs)
taken_more h xs i d y old now is l gives =
    ap (λ ys. ys ++ y ∷ []) is ∙ append_assoc old (filter_map h (take i xs)) (y ∷ [])
    ∙ ap (λ ys. old ++ ys) (ap (λ o. filter_map h (take i xs) ++ cons_option o []) (sym gives) ∙ sym (filter_map-append h (take i xs) (get_or xs i d ∷ []))
    ∙ ap (filter_map h) (sym (take_more xs i d l)))

pub passed_more : {X Y : Type 0} (h : X → Option Y) (xs : List X) (i : ℕ) (d : X) (old now : List Y) → now ≡ old ++ filter_map h (take i xs)
    → i < length xs → h (get_or xs i d) ≡ None → now ≡ old ++ filter_map h (take (i + 1) xs)
passed_more h xs i d old now is l gives =
    is ∙ ap (λ ys. old ++ ys) (sym (append-nil (filter_map h (take i xs))) ∙ ap (λ o. filter_map h (take i xs) ++ cons_option o []) (sym gives)
    ∙ sym (filter_map-append h (take i xs) (get_or xs i d ∷ [])) ∙ ap (filter_map h) (sym (take_more xs i d l)))
