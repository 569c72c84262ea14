-- The keys of the table of names, and the texts that contracts see.
use Rattle.std.proofs.Common.{◌≡◌, ℕ, zero, suc, ◌+◌, ◌<◌, take, get_or, add-one, arith, Bool, true, false, cond, ◌||◌, true≢false, List, [], ◌∷◌, ◌++◌, map, slice_get, Contains, Some, is_some, String, string_bytes, string_eq, bytes_eq, refl, sym, ap, subst, ◌∙◌, if◌then◌else◌, find}
use Rattle.std.specs.Option.{option_map}
use Rattle.std.specs.List.{list_any, AllByRecursion, IsDistinct}
use Rattle.std.specs.Cmp.Lexicographic.{bytes_decides, nat_list_eq_equiv}
use Rattle.std.proofs.lemmas.Map.Views.{list_any-from_Contains}
use Rattle.std.proofs.Math.Seq.{take-suc}
use Rattle.indexmap.specs.IndexSet.{insert_key}
use Rattle.std.proofs.lemmas.Option.{same_Some, slice_get-map, slice_get_within, get_or_from_slice_get}
use Rattle.dart_base.specs.Names.{AreDistinct, interned}

-- what `find` finds passes
pub passes : {K : Type 0} (p : K → Bool) (xs : List K) (x : K) → find p xs ≡ Some x → p x ≡ true
passes p [] x h = absurd (true≢false (sym (ap is_some h)))
passes p (y ∷ ys) x h = by (p y) refl (passes p ys x)
  where
    by : (b : Bool) → p y ≡ b → (find p ys ≡ Some x → p x ≡ true) → p x ≡ true
    by true e rest = subst (λ z. p z ≡ true) (same_Some y x (ap (λ b. cond b (Some y) (find p ys)) (sym e) ∙ h)) e
    by false e rest = rest (ap (λ b. cond b (Some y) (find p ys)) (sym e) ∙ h)

module _ {Z : Type 0} where
  -- the key that the table finds has the text
  pub text_at : (text : List ℕ) (keys : List (String Z)) (i : ℕ) (k : String Z) → slice_get keys i ≡ Some k → Some k ≡ find (λ k. bytes_eq text (string_bytes k)) keys
      → slice_get (map string_bytes keys) i ≡ Some text
  text_at text keys i k at found =
      slice_get-map string_bytes keys i ∙ ap (option_map string_bytes) at
      ∙ ap Some (sym ((bytes_decides text (string_bytes k)).0 (passes (λ k. bytes_eq text (string_bytes k)) keys k (sym found))))

  -- the same test over the texts
  pub any_texts : (text : List ℕ) (keys : List (String Z)) → list_any (bytes_eq text) (map string_bytes keys) ≡ list_any (λ k. bytes_eq text (string_bytes k)) keys
  any_texts text [] = refl
  any_texts text (k ∷ ks) = ap (λ b. bytes_eq text (string_bytes k) || b) (any_texts text ks)

  -- the texts after a key is added
  pub map-push : (keys : List (String Z)) (k : String Z) → map string_bytes (keys ++ k ∷ []) ≡ map string_bytes keys ++ string_bytes k ∷ []
  map-push [] k = refl
  map-push (y ∷ ys) k = ap (λ l. string_bytes y ∷ l) (map-push ys k)

  apart : (k : String Z) (ks : List (String Z)) → AllByRecursion (λ y. string_eq k y ≡ false) ks → (j : ℕ) (t : List ℕ) → slice_get (map string_bytes ks) j ≡ Some t → string_bytes k ≡ t → ⊥
  apart k [] h j t a e = true≢false (sym (ap is_some a))
  apart k (y ∷ ys) h zero t a e = true≢false (sym ((bytes_decides (string_bytes k) (string_bytes y)).1 (e ∙ sym (same_Some _ _ a))) ∙ h.0)
  apart k (y ∷ ys) h (suc j) t a e = apart k ys h.1 j t a e

  -- keys of which no two are equal have texts of which no two are
  pub distinct_texts : (keys : List (String Z)) → IsDistinct string_eq keys → AreDistinct (map string_bytes keys)
  unfolding IsDistinct
  distinct_texts [] h i j t a b = absurd (true≢false (sym (ap is_some a)))
  distinct_texts (k ∷ ks) h zero zero t a b = refl
  distinct_texts (k ∷ ks) h zero (suc j) t a b = absurd (apart k ks h.0 j t b (same_Some _ _ a))
  distinct_texts (k ∷ ks) h (suc i) zero t a b = absurd (apart k ks h.0 i t a (same_Some _ _ b))
  distinct_texts (k ∷ ks) h (suc i) (suc j) t a b = ap suc (distinct_texts ks h.1 i j t a b)

  -- the texts after an insert
  pub texts_after : (keys : List (String Z)) (k : String Z) → map string_bytes (insert_key string_eq keys k) ≡ interned (map string_bytes keys) (string_bytes k)
  texts_after keys k = by (list_any (string_eq k) keys) refl
    where
      texts : List (List ℕ)
      texts = map string_bytes keys

      by : (b : Bool) → list_any (string_eq k) keys ≡ b → map string_bytes (insert_key string_eq keys k) ≡ interned texts (string_bytes k)
      by true e = ap (λ b. map string_bytes (if b then keys else keys ++ k ∷ [])) e ∙ sym (ap (λ b. if b then texts else texts ++ string_bytes k ∷ []) (any_texts (string_bytes k) keys ∙ e))
      by false e = ap (λ b. map string_bytes (if b then keys else keys ++ k ∷ [])) e ∙ map-push keys k ∙ sym (ap (λ b. if b then texts else texts ++ string_bytes k ∷ []) (any_texts (string_bytes k) keys ∙ e))

  -- a key that is equal to an inserted one has its text
  pub text_kept : (text : List ℕ) (keys : List (String Z)) (i : ℕ) (k y : String Z) → string_bytes k ≡ text → slice_get keys i ≡ Some y → string_eq k y ≡ true
      → slice_get (map string_bytes keys) i ≡ Some text
  text_kept text keys i k y is at same =
      slice_get-map string_bytes keys i ∙ ap (option_map string_bytes) at
      ∙ ap Some (sym ((bytes_decides (string_bytes k) (string_bytes y)).0 same) ∙ is)

-- a text that is there stays where it is
pub interned-known : (texts : List (List ℕ)) (text : List ℕ) → list_any (bytes_eq text) texts ≡ true → texts ≡ interned texts text
interned-known texts text h = sym (ap (λ b. if b then texts else texts ++ text ∷ []) h)

pub Contains-at : (texts : List (List ℕ)) (i : ℕ) (text : List ℕ) → slice_get texts i ≡ Some text → Contains texts text
Contains-at texts i text at = (i, slice_get_within texts i text at, get_or_from_slice_get texts i text text at)

-- a text that the table lacks is not in the list
pub lacks : (texts : List (List ℕ)) (text : List ℕ) → list_any (bytes_eq text) texts ≡ false → Contains texts text → ⊥
lacks texts text none there = true≢false (sym (list_any-from_Contains nat_list_eq_equiv text texts there) ∙ none)

-- what is among the first n texts is a text with a lesser number
taken : (n : ℕ) (texts : List (List ℕ)) (j : ℕ) (text : List ℕ) → slice_get (take n texts) j ≡ Some text → (slice_get texts j ≡ Some text) × (j < n)
taken zero texts j text h = absurd (true≢false (sym (ap is_some h)))
taken (suc n) [] j text h = absurd (true≢false (sym (ap is_some h)))
taken (suc n) (x ∷ xs) zero text h = (h, omega arith)
taken (suc n) (x ∷ xs) (suc j) text h = let r = taken n xs j text h in (r.0, omega arith)

-- a text without a number is none of the list
absent : (text : List ℕ) (texts : List (List ℕ)) → ((j : ℕ) → slice_get texts j ≡ Some text → ⊥) → list_any (bytes_eq text) texts ≡ false
absent text [] h = refl
absent text (x ∷ xs) h = by (bytes_eq text x) refl (absent text xs (λ j. h (suc j)))
  where
    by : (b : Bool) → bytes_eq text x ≡ b → list_any (bytes_eq text) xs ≡ false → list_any (bytes_eq text) (x ∷ xs) ≡ false
    by true e rest = absurd (h zero (ap Some (sym ((bytes_decides text x).0 e))))
    by false e rest = ap (λ b. b || list_any (bytes_eq text) xs) e ∙ rest

-- the first texts of a table with one more is a table with one more name
pub interned-next : (texts : List (List ℕ)) (n : ℕ) (text : List ℕ) → AreDistinct texts → slice_get texts n ≡ Some text
    → interned (take n texts) text ≡ take (n + 1) texts
interned-next texts n text distinct at =
    ap (λ b. if b then take n texts else take n texts ++ text ∷ []) (absent text (take n texts) earlier)
    ∙ sym (ap (λ k. take k texts) (add-one n) ∙ take-suc texts n text (slice_get_within texts n text at) ∙ ap (λ z. take n texts ++ z ∷ []) (get_or_from_slice_get texts n text text at))
  where
    earlier : (j : ℕ) → slice_get (take n texts) j ≡ Some text → ⊥
    earlier j a =
        let r = taken n texts j text a in
        let same : j ≡ n = distinct j n text r.0 at in
        absurd (omega arith)
