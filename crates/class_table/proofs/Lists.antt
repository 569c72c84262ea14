-- Lists whose elements are read, and prefixes of them.
use Rattle.std.proofs.Common.{◌≡◌, ℕ, zero, suc, ◌<◌, ◌≤◌, List, [], ◌∷◌, ◌++◌, length, map, take, All, Option, Some, None, slice_get, arith, refl, ap, ◌∙◌, subst as transport}
use Rattle.std.proofs.lemmas.Option.{get_or_from_slice_get, slice_get_within}
use Rattle.dart_ir.specs.Ty.{Ty, ty}
use Rattle.dart_ir.specs.declared.types.TypeRef.{TypeRef}
use Rattle.dart_ir.specs.Classes.{with_superclass}

-- a property of each type of a list
abbrev pub Each : (Ty → Type 0) → List Ty → Type 0
Each P [] = Unit {0}
Each P (t ∷ ts) = P t × Each P ts

pub each_first : (P Q : Ty → Type 0) → ((t : Ty) → P t → Q t) → (ts : List Ty) → Each P ts → Each Q ts
each_first P Q f [] e = tt
each_first P Q f (t ∷ ts) e = (f t e.0, each_first P Q f ts e.1)

pub each_append : (P : Ty → Type 0) (ts us : List Ty) → Each P ts → Each P us → Each P (ts ++ us)
each_append P [] us a b = b
each_append P (t ∷ ts) us a b = (a.0, each_append P ts us a.1 b)

-- what holds of each element that is read holds of each type that is made of one
pub each_of : {A : Type 0} (P : Ty → Type 0) (f : A → Ty) (xs : List A) → ((k : ℕ) (x : A) → slice_get xs k ≡ Some x → P (f x)) → Each P (map f xs)
each_of P f [] h = tt
each_of P f (x ∷ xs) h = (h 0 x refl, each_of P f xs (λ k y q. h (suc k) y q))

-- what holds of each of a list's types holds of each element
pub all_of_each : (P : Ty → Type 0) (us : List TypeRef) → Each P (map ty us) → All (λ u. P (ty u)) us
all_of_each P [] e k d l = absurd (omega (arith, l))
all_of_each P (u ∷ us) e zero d l = e.0
all_of_each P (u ∷ us) e (suc k) d l = all_of_each P us e.1 k d (omega (arith, l))

pub all_get : {A : Type 0} (P : A → Type 0) (xs : List A) → All P xs → (k : ℕ) (x : A) → slice_get xs k ≡ Some x → P x
all_get P xs h k x q = transport P (get_or_from_slice_get xs k x x q) (h k x (slice_get_within xs k x q))

pub some_in : {A : Type 0} (xs : List A) (i : ℕ) → i < length xs → (x : A) × (slice_get xs i ≡ Some x)
some_in [] i l = absurd (omega (arith, l))
some_in (x ∷ xs) zero l = (x, refl)
some_in (x ∷ xs) (suc i) l = some_in xs i (omega (arith, l))

pub slice_get_at : {A : Type 0} (xs : List A) (x : A) (i : ℕ) → i ≡ length xs → slice_get (xs ++ x ∷ []) i ≡ Some x
slice_get_at [] x zero q = refl
slice_get_at [] x (suc i) q = absurd (omega (arith, q))
slice_get_at (y ∷ xs) x zero q = absurd (omega (arith, q))
slice_get_at (y ∷ xs) x (suc i) q = slice_get_at xs x i (omega (arith, q))

pub slice_get_left : {A : Type 0} (xs ys : List A) (i : ℕ) (x : A) → i < length xs → slice_get (xs ++ ys) i ≡ Some x → slice_get xs i ≡ Some x
slice_get_left [] ys i x l q = absurd (omega (arith, l))
slice_get_left (y ∷ xs) ys zero x l q = q
slice_get_left (y ∷ xs) ys (suc i) x l q = slice_get_left xs ys i x (omega (arith, l)) q

-- what is read of a prefix is read of the list
pub slice_get_take : {A : Type 0} (xs : List A) (n i : ℕ) (x : A) → slice_get (take n xs) i ≡ Some x → (i < n) × (slice_get xs i ≡ Some x)
slice_get_take [] zero i x q = absurd (cc)
slice_get_take [] (suc n) i x q = absurd (cc)
slice_get_take (y ∷ xs) zero i x q = absurd (cc)
slice_get_take (y ∷ xs) (suc n) zero x q = (omega arith, q)
slice_get_take (y ∷ xs) (suc n) (suc i) x q = let r = slice_get_take xs n i x q in (let l = r.0 in omega (arith, l), r.1)

pub slice_get_in_take : {A : Type 0} (xs : List A) (n i : ℕ) → i < n → slice_get (take n xs) i ≡ slice_get xs i
slice_get_in_take xs zero i l = absurd (omega (arith, l))
slice_get_in_take [] (suc n) i l = refl
slice_get_in_take (y ∷ xs) (suc n) zero l = refl
slice_get_in_take (y ∷ xs) (suc n) (suc i) l = slice_get_in_take xs n i (omega (arith, l))

pub take_push : {A : Type 0} (xs ys : List A) (n : ℕ) → n ≤ length xs → take n (xs ++ ys) ≡ take n xs
take_push xs ys zero l = refl
take_push [] ys (suc n) l = absurd (omega (arith, l))
take_push (x ∷ xs) ys (suc n) l = ap (λ z. x ∷ z) (take_push xs ys n (omega (arith, l)))

pub take_whole : {A : Type 0} (xs ys : List A) (n : ℕ) → n ≡ length xs → take n (xs ++ ys) ≡ xs
take_whole [] ys zero q = refl
take_whole [] ys (suc n) q = absurd (omega (arith, q))
take_whole (x ∷ xs) ys zero q = absurd (omega (arith, q))
take_whole (x ∷ xs) ys (suc n) q = ap (λ z. x ∷ z) (take_whole xs ys n (omega (arith, q)))

-- the superclass and the interfaces
pub two_parts : (o : Option TypeRef) (us : List TypeRef) (xs ys : List Ty) → map ty (with_superclass o []) ≡ xs → map ty us ≡ ys → map ty (with_superclass o us) ≡ xs ++ ys
two_parts None us xs ys a b = b ∙ ap (λ z. z ++ ys) a
two_parts (Some u) us xs ys a b = ap (λ z. ty u ∷ z) b ∙ ap (λ z. z ++ ys) a

pub no_types : (us : List TypeRef) → map ty us ≡ [] → us ≡ []
no_types [] h = refl
no_types (u ∷ us) h = absurd (cc)
