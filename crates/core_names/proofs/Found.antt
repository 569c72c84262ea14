-- A program within a table comes back from its texts.
use Rattle.std.proofs.Common.{◌≡◌, ◌∙◌, ℕ, zero, suc, ◌+◌, ◌<◌, arith, Bool, true, false, cond, true≢false, List, [], ◌∷◌, length, get_or, slice_get, Some, is_some, bytes_eq, unwrap_or, refl, sym, ap}
use Rattle.std.specs.List.{position_from}
use Rattle.std.specs.Cmp.Lexicographic.{bytes_decides}
use Rattle.std.proofs.lemmas.Option.{same_Some, slice_get-get_or}
use Rattle.std.proofs.lemmas.List.Elements.{All-weaker, recursion_from_All}
use Rattle.dart_base.specs.Names.{AreDistinct}
use Rattle.core_program.specs.Program.{Program}
use Rattle.core_program.specs.Named as named
use Rattle.core_program.specs.ProgramView.{text_at}
use Rattle.core_names.specs.Names.{program_names}
use Rattle.core_names.specs.Within.{AreWithin, number_at}
use Rattle.core_names.proofs.Back.{program_back}

-- a text is found where it first stands
first_at : (text : List ℕ) (texts : List (List ℕ)) (n i at : ℕ) → n + i ≡ at → slice_get texts i ≡ Some text
    → ((j : ℕ) → j < i → slice_get texts j ≡ Some text → ⊥) → position_from (bytes_eq text) n texts ≡ Some at
first_at text [] n i at sum here before = absurd (true≢false (sym (ap is_some here)))
first_at text (x ∷ xs) n zero at sum here before =
    ap (λ b. cond b (Some n) (position_from (bytes_eq text) (n + 1) xs)) ((bytes_decides text x).1 (sym (same_Some x text here)))
    ∙ ap Some (let e : n ≡ at = omega (arith, sum) in e)
first_at text (x ∷ xs) n (suc i) at sum here before =
    by (bytes_eq text x) refl (first_at text xs (n + 1) i at (omega (arith, sum)) here (λ j less. before (suc j) (omega (arith, less))))
  where
    by : (b : Bool) → bytes_eq text x ≡ b → position_from (bytes_eq text) (n + 1) xs ≡ Some at
        → cond b (Some n) (position_from (bytes_eq text) (n + 1) xs) ≡ Some at
    by true e rest = absurd (before zero (omega arith) (ap Some (sym ((bytes_decides text x).0 e))))
    by false e rest = rest

module _ (texts : List (List ℕ)) (distinct : AreDistinct texts) where
  pub number_back : (n : ℕ) → n < length texts → number_at texts (text_at texts n) ≡ n
  number_back n within =
      let here : slice_get texts n ≡ Some (text_at texts n) = there n (slice_get-get_or texts n [] within) in
      ap (λ o. unwrap_or o 0) (first_at (text_at texts n) texts 0 n n (omega arith) here
      (λ j less same. let e : j ≡ n = distinct j n (text_at texts n) same here in absurd (omega (arith, less, e))))
    where
      there : (n : ℕ) → slice_get texts n ≡ Some (get_or texts n []) → slice_get texts n ≡ Some (text_at texts n)
      there n h = h ∙ ap Some (sym (ap (λ o. unwrap_or o []) h))

  pub numbers_back : (q : Program ℕ) → AreWithin (length texts) q → named.program (number_at texts) (named.program (text_at texts) q) ≡ q
  numbers_back q within =
      program_back (text_at texts) (number_at texts) q
      (recursion_from_All (λ n. number_at texts (text_at texts n) ≡ n) (program_names q)
      (All-weaker (λ n. n < length texts) (λ n. number_at texts (text_at texts n) ≡ n) number_back (program_names q) within))

  pub same_numbers : (q r : Program ℕ) → AreWithin (length texts) q → AreWithin (length texts) r
      → named.program (text_at texts) q ≡ named.program (text_at texts) r → q ≡ r
  same_numbers q r one other same = sym (numbers_back q one) ∙ ap (named.program (number_at texts)) same ∙ numbers_back r other
