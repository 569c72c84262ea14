-- The last values of a stack that grows.
use Rattle.std.proofs.Common.{◌≡◌, ℕ, zero, suc, ◌+◌, ◌-◌, ◌≤◌, List, [], ◌∷◌, ◌++◌, length, take, drop, refl, ap, ◌∙◌, arith, length-append}
use Rattle.machine_lookup.specs.Rows.{last_of, but_last}

drop_append : {A : Type 0} (n : ℕ) (xs ys : List A) → n ≤ length xs → drop n (xs ++ ys) ≡ drop n xs ++ ys
drop_append zero xs ys h = refl
drop_append (suc n) [] ys h = absurd (omega arith)
drop_append (suc n) (x ∷ xs) ys h = drop_append n xs ys (omega arith)

take_append : {A : Type 0} (n : ℕ) (xs ys : List A) → n ≤ length xs → take n (xs ++ ys) ≡ take n xs
take_append zero xs ys h = refl
take_append (suc n) [] ys h = absurd (omega arith)
take_append (suc n) (x ∷ xs) ys h = ap (λ l. x ∷ l) (take_append n xs ys (omega arith))

long : {A : Type 0} (n : ℕ) (xs : List A) (x : A) → length (xs ++ x ∷ []) - (n + 1) ≡ length xs - n
long n xs x = omega (arith, length-append xs (x ∷ []))

pub last_push : {A : Type 0} (n : ℕ) (xs : List A) (x : A) → last_of (n + 1) (xs ++ x ∷ []) ≡ last_of n xs ++ x ∷ []
last_push n xs x = ap (λ k. drop k (xs ++ x ∷ [])) (long n xs x) ∙ drop_append (length xs - n) xs (x ∷ []) (omega arith)

pub but_push : {A : Type 0} (n : ℕ) (xs : List A) (x : A) → but_last (n + 1) (xs ++ x ∷ []) ≡ but_last n xs
but_push n xs x = ap (λ k. take k (xs ++ x ∷ [])) (long n xs x) ∙ take_append (length xs - n) xs (x ∷ []) (omega arith)

drop_all : {A : Type 0} (xs : List A) → drop (length xs) xs ≡ []
drop_all [] = refl
drop_all (x ∷ xs) = drop_all xs

take_all : {A : Type 0} (xs : List A) → take (length xs) xs ≡ xs
take_all [] = refl
take_all (x ∷ xs) = ap (λ l. x ∷ l) (take_all xs)

pub last_none : {A : Type 0} (xs : List A) → last_of 0 xs ≡ []
last_none xs = ap (λ k. drop k xs) (let e : length xs - 0 ≡ length xs = omega arith in e) ∙ drop_all xs

pub but_none : {A : Type 0} (xs : List A) → but_last 0 xs ≡ xs
but_none xs = ap (λ k. take k xs) (let e : length xs - 0 ≡ length xs = omega arith in e) ∙ take_all xs

pub above_none : {A : Type 0} (xs : List A) → drop (length xs) xs ≡ []
above_none xs = drop_all xs

pub under_none : {A : Type 0} (xs : List A) → take (length xs) xs ≡ xs
under_none xs = take_all xs

pub under_all : {A : Type 0} (xs ys : List A) → take (length xs) (xs ++ ys) ≡ xs
under_all xs ys = take_append (length xs) xs ys (omega arith) ∙ take_all xs

pub above_all : {A : Type 0} (xs ys : List A) → drop (length xs) (xs ++ ys) ≡ ys
above_all xs ys = drop_append (length xs) xs ys (omega arith) ∙ ap (λ l. l ++ ys) (drop_all xs)

pub ruleset row_laws = (last_push, but_push, last_none, but_none, under_all, above_all, above_none, under_none)
