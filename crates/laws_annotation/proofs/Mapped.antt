-- What is read of each item of a list, and of what may be missing, where each item is as before.
use Rattle.std.proofs.Common.{◌≡◌, refl, sym, ◌∙◌, ℕ, zero, suc, ◌+◌, Bool, not, ◌||◌, cond, List, [], ◌∷◌, ◌++◌, length, map, flat_map, slice_get, None, Some}
use Rattle.std.specs.Prelude.{nat_lt, position, slice_get}
use Rattle.std.specs.List.{list_any, position_or_len, AllZip}
use Rattle.std.proofs.lemmas.List.{map-append}
use Rattle.dart_tree.specs.UnitView.{maybe}

module _ {A : Type 0} (e : A → A) where
  pub flat_same : {B : Type 0} (f : A → List B) → ((x : A) → f (e x) ≡ f x) → (xs : List A) → flat_map f (map e xs) ≡ flat_map f xs
  flat_same f h [] = refl
  flat_same f h (x ∷ xs) = λ i. h x i ++ flat_same f h xs i

  pub map_same : {B : Type 0} (f : A → B) → ((x : A) → f (e x) ≡ f x) → (xs : List A) → map f (map e xs) ≡ map f xs
  map_same f h [] = refl
  map_same f h (x ∷ xs) = λ i. h x i ∷ map_same f h xs i

  pub any_same : (f : A → Bool) → ((x : A) → f (e x) ≡ f x) → (xs : List A) → list_any f (map e xs) ≡ list_any f xs
  any_same f h [] = refl
  any_same f h (x ∷ xs) = λ i. h x i || any_same f h xs i

  pub length_same : (xs : List A) → length (map e xs) ≡ length xs
  length_same [] = refl
  length_same (x ∷ xs) = λ i. suc (length_same xs i)

  before_same : (f : A → Bool) → ((x : A) → f (e x) ≡ f x) → (xs : List A) → position_or_len f (map e xs) ≡ position_or_len f xs
  before_same f h [] = refl
  before_same f h (x ∷ xs) = λ i. cond (not (h x i)) (1 + before_same f h xs i) 0

  pub position_same : (f : A → Bool) → ((x : A) → f (e x) ≡ f x) → (xs : List A) → position f (map e xs) ≡ position f xs
  position_same f h xs = λ i. cond (nat_lt (before_same f h xs i) (length_same xs i)) (Some (before_same f h xs i)) None

  pub get_mapped : (xs : List A) (n : ℕ) → slice_get (map e xs) n ≡ maybe e (slice_get xs n)
  get_mapped [] n = refl
  get_mapped (x ∷ xs) zero = refl
  get_mapped (x ∷ xs) (suc n) = get_mapped xs n

-- what is made of each item goes over to what is made of the changed ones
pub flat_to : {A B : Type 0} (e : A → A) (g : B → B) (f : A → List B) → ((x : A) → f (e x) ≡ map g (f x)) → (xs : List A)
    → flat_map f (map e xs) ≡ map g (flat_map f xs)
flat_to e g f h [] = refl
flat_to e g f h (x ∷ xs) = (λ i. h x i ++ flat_to e g f h xs i) ∙ sym (map-append g (f x) (flat_map f xs))

-- what goes together in one way goes together in another
pub zip_to : {A B : Type 0} (R S : A → B → Type 0) → ((a : A) (b : B) → R a b → S a b) → (xs : List A) (ys : List B) → AllZip R xs ys → AllZip S xs ys
zip_to R S h [] [] all = all
zip_to R S h [] (y ∷ ys) all = absurd all
zip_to R S h (x ∷ xs) [] all = absurd all
zip_to R S h (x ∷ xs) (y ∷ ys) all = (h x y all.0, zip_to R S h xs ys all.1)
