-- The numbers of texts in a table of names.
use Rattle.std.proofs.Common.{◌≡◌, ◌∙◌, ℕ, zero, suc, ◌+◌, ◌<◌, ◌≤◌, ◌⊎◌, inl, inr, arith, Bool, true, false, cond, true≢false, List, [], ◌∷◌, length, slice_get, Option, Some, None, is_some, bytes_eq, refl, sym, ap, subst}
use Rattle.std.specs.Prelude.{unwrap_or, if◌then◌else◌}
use Rattle.std.specs.List.{position_from}
use Rattle.std.specs.Str.{is_utf8, IsUtf8}
use Rattle.std.specs.Cmp.Lexicographic.{bytes_decides}
use Rattle.std.proofs.lemmas.Option.{same_Some, slice_get_within}
use Rattle.dart_base.specs.Names.{AreDistinct}
use Rattle.scope_declared.specs.Number.{no_name, number_in, name_text, number_of}
use Rattle.scope_declared.proofs.Finding.{number-found}

-- where a search for a text ends, that text stands
record StandsAt (texts : List (List ℕ)) (text : List ℕ) (first at : ℕ) : Type 0 where
  place : ℕ
  sum : first + place ≡ at
  here : slice_get texts place ≡ Some text

found-at : (text : List ℕ) (texts : List (List ℕ)) (first at : ℕ) → position_from (bytes_eq text) first texts ≡ Some at → StandsAt texts text first at
found-at text [] first at h = absurd (true≢false (sym (ap is_some h)))
found-at text (x ∷ xs) first at h = by (bytes_eq text x) refl (found-at text xs (first + 1) at)
  where
    by : (b : Bool) → bytes_eq text x ≡ b → (position_from (bytes_eq text) (first + 1) xs ≡ Some at → StandsAt xs text (first + 1) at)
        → StandsAt (x ∷ xs) text first at
    by true e next =
        let same = same_Some first at (ap (λ b. cond b (Some first) (position_from (bytes_eq text) (first + 1) xs)) (sym e) ∙ h) in
        record { place = zero; sum = omega (arith, same); here = ap Some (sym ((bytes_decides text x).0 e)) }
    by false e next =
        let rest = next (ap (λ b. cond b (Some first) (position_from (bytes_eq text) (first + 1) xs)) (sym e) ∙ h) in
        record { place = suc rest.place; sum = omega (arith, rest.sum); here = rest.here }

-- a text has the number of a place where it stands, or none
abbrev HasNumber : List (List ℕ) → List ℕ → ℕ → Type 0
HasNumber texts text number = (slice_get texts number ≡ Some text) ⊎ (number ≡ no_name)

abbrev chosen : List (List ℕ) → List ℕ → Bool → ℕ
chosen texts text b = if b then unwrap_or (position_from (bytes_eq text) 0 texts) no_name else no_name

number-is : (texts : List (List ℕ)) (text : List ℕ) → HasNumber texts text (number_in texts text)
number-is texts text = by (is_utf8 text) refl
  where
    placed : (o : Option ℕ) → position_from (bytes_eq text) 0 texts ≡ o → HasNumber texts text (unwrap_or o no_name)
    placed None e = inr refl
    placed (Some at) e =
        let stands = found-at text texts 0 at e in
        let same : stands.place ≡ at = omega (arith, stands.sum) in
        inl (subst (λ n. slice_get texts n ≡ Some text) same stands.here)

    by : (b : Bool) → is_utf8 text ≡ b → HasNumber texts text (chosen texts text b)
    by true e = placed (position_from (bytes_eq text) 0 texts) refl
    by false e = inr refl

-- a number of the table is that of the text that stands there
pub text-at-number : (texts : List (List ℕ)) (text : List ℕ) (n : ℕ) → length texts ≤ no_name → n < length texts
    → number_in texts text ≡ n → slice_get texts n ≡ Some text
text-at-number texts text n few less same = by n (subst (HasNumber texts text) same (number-is texts text)) less
  where
    by : (n : ℕ) → HasNumber texts text n → n < length texts → slice_get texts n ≡ Some text
    by n h less = elim h [ inl at ↦ at | inr past ↦ absurd (omega (arith, past, few, less)) ]

pub name-of-number : (texts : List (List ℕ)) (library : ℕ) (text : List ℕ) (n : ℕ) → length texts ≤ no_name → n < length texts
    → number_of texts library text ≡ n → slice_get texts n ≡ Some (name_text library text)
unfolding number_of
name-of-number texts library text n few less same = text-at-number texts (name_text library text) n few less same

-- what has no number of the table has that of no name
pub number-past : (texts : List (List ℕ)) (library : ℕ) (text : List ℕ) → length texts ≤ number_of texts library text → number_of texts library text ≡ no_name
unfolding number_of
number-past texts library text past = by (number_in texts (name_text library text)) (number-is texts (name_text library text)) past
  where
    by : (n : ℕ) → HasNumber texts (name_text library text) n → length texts ≤ n → n ≡ no_name
    by n h past = elim h [ inl at ↦ absurd (omega (arith, slice_get_within texts n (name_text library text) at, past)) | inr none ↦ none ]

-- a name's number is where it stands
pub number-of-name : (texts : List (List ℕ)) (library : ℕ) (text name : List ℕ) (n : ℕ) → AreDistinct texts → IsUtf8 name
    → slice_get texts n ≡ Some name → name_text library text ≡ name → number_of texts library text ≡ n
unfolding number_of
number-of-name texts library text name n distinct valid at same =
    ap (number_in texts) same ∙ sym (number-found texts name n valid distinct at)
