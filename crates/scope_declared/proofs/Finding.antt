-- Where a text stands in a table of names.
use Rattle.std.proofs.Common.{◌≡◌, ◌∙◌, ℕ, zero, suc, ◌+◌, ◌<◌, arith, Bool, true, false, cond, true≢false, List, [], ◌∷◌, slice_get, Contains, Option, Some, None, is_some, bytes_eq, refl, sym, ap}
use Rattle.std.specs.Prelude.{unwrap_or, if◌then◌else◌}
use Rattle.std.specs.List.{position_from}
use Rattle.std.specs.Str.{is_utf8, IsUtf8}
use Rattle.std.specs.Cmp.Lexicographic.{bytes_decides}
use Rattle.std.proofs.lemmas.Option.{same_Some}
use Rattle.std.proofs.lemmas.Str.{IsUtf8-from_is_utf8, is_utf8-from_IsUtf8}
use Rattle.dart_base.specs.Names.{AreDistinct}
use Rattle.dart_base.proofs.Texts.{Contains-at}
use Rattle.scope_declared.specs.Number.{no_name, number_in}

-- a text is found where it first stands
first_at : (text : List ℕ) (texts : List (List ℕ)) (n i at : ℕ) → n + i ≡ at → slice_get texts i ≡ Some text → ((j : ℕ) → j < i → slice_get texts j ≡ Some text → ⊥) → position_from (bytes_eq text) n texts ≡ Some at
first_at text [] n i at sum here before = absurd (true≢false (sym (ap is_some here)))
first_at text (x ∷ xs) n zero at sum here before =
    ap (λ b. cond b (Some n) (position_from (bytes_eq text) (n + 1) xs)) ((bytes_decides text x).1 (sym (same_Some x text here))) ∙ ap Some (let e : n ≡ at = omega (arith, sum) in e)
first_at text (x ∷ xs) n (suc i) at sum here before =
    by (bytes_eq text x) refl (first_at text xs (n + 1) i at (omega (arith, sum)) here (λ j less. before (suc j) (omega (arith, less))))
  where
    by : (b : Bool) → bytes_eq text x ≡ b → position_from (bytes_eq text) (n + 1) xs ≡ Some at → cond b (Some n) (position_from (bytes_eq text) (n + 1) xs) ≡ Some at
    by true e rest = absurd (before zero (omega arith) (ap Some (sym ((bytes_decides text x).0 e))))
    by false e rest = rest

-- a text that stands nowhere is not found
nowhere_at : (text : List ℕ) (texts : List (List ℕ)) (n : ℕ) → ((j : ℕ) → slice_get texts j ≡ Some text → ⊥) → position_from (bytes_eq text) n texts ≡ None
nowhere_at text [] n lacks = refl
nowhere_at text (x ∷ xs) n lacks = by (bytes_eq text x) refl (nowhere_at text xs (n + 1) (λ j. lacks (suc j)))
  where
    by : (b : Bool) → bytes_eq text x ≡ b → position_from (bytes_eq text) (n + 1) xs ≡ None → cond b (Some n) (position_from (bytes_eq text) (n + 1) xs) ≡ None
    by true e rest = absurd (lacks zero (ap Some (sym ((bytes_decides text x).0 e))))
    by false e rest = rest

abbrev chosen : List (List ℕ) → List ℕ → Bool → ℕ
chosen texts text b = if b then unwrap_or (position_from (bytes_eq text) 0 texts) no_name else no_name

pub number-found : (texts : List (List ℕ)) (text : List ℕ) (i : ℕ) → IsUtf8 text → AreDistinct texts → slice_get texts i ≡ Some text → i ≡ number_in texts text
number-found texts text i valid distinct here =
    sym (ap (chosen texts text) (is_utf8-from_IsUtf8 text valid) ∙ ap (λ o. unwrap_or o no_name) (first_at text texts 0 i i (omega arith) here before))
  where
    before : (j : ℕ) → j < i → slice_get texts j ≡ Some text → ⊥
    before j less there = let same : j ≡ i = distinct j i text there here in absurd (omega (arith, less, same))

pub number-missing : (texts : List (List ℕ)) (text : List ℕ) → IsUtf8 text → ¬ (Contains texts text) → no_name ≡ number_in texts text
number-missing texts text valid lacks =
    sym (ap (chosen texts text) (is_utf8-from_IsUtf8 text valid) ∙ ap (λ o. unwrap_or o no_name) (nowhere_at text texts 0 (λ j there. lacks (Contains-at texts j text there))))

pub number-invalid : (texts : List (List ℕ)) (text : List ℕ) → ¬ (IsUtf8 text) → no_name ≡ number_in texts text
number-invalid texts text invalid = sym (ap (chosen texts text) (by (is_utf8 text) refl))
  where
    by : (b : Bool) → is_utf8 text ≡ b → is_utf8 text ≡ false
    by true e = absurd (invalid (IsUtf8-from_is_utf8 text e))
    by false e = e
