-- An option is taken off words, with its number where it has one.
use Rattle.std.specs.Prelude.{option_and_then}
use Rattle.std.specs.Str.{bytes_eq}
use Rattle.std.proofs.Common.{◌≡◌, ◌∙◌, ◌≤◌, ◌-◌, ℕ, ap, sym, Bool, true, false, if◌then◌else◌, List, [], ◌∷◌, Some, length, map, get_or, take, drop, codes, arith}
use Rattle.std.proofs.lemmas.Grind.{common_steps}
use Rattle.dart_words.specs.declared.options.Given.{Given}
use Rattle.dart_words.specs.Options.{with_checked, with_option}
use Rattle.dart_words.specs.Words.{run_command}

rest_of_two : {A : Type 0} (a b : A) (xs : List A) → take (length (a ∷ b ∷ xs) - 2) (drop 2 (a ∷ b ∷ xs)) ≡ xs
rest_of_two a b xs = grind (arith, common_steps)

rest_of_one : {A : Type 0} (a : A) (xs : List A) → take (length (a ∷ xs) - 1) (drop 1 (a ∷ xs)) ≡ xs
rest_of_one a xs = grind (arith, common_steps)

abbrev pub is_checked : List ℕ → Bool
is_checked word = bytes_eq word (codes "--checked")

module _ {A : Type 0} (bytes : A → List ℕ) (given more : Given) where
  reading_checked : (option next : A) (rest : List A) → is_checked (bytes option) ≡ true → with_checked given ≡ Some more
      → run_command given (map bytes (option ∷ next ∷ rest)) ≡ run_command more (map bytes (next ∷ rest))
  reading_checked option next rest is e =
      ap (λ b. if b then option_and_then (λ m. run_command m (map bytes (next ∷ rest))) (with_checked given)
      else option_and_then (λ m. run_command m (map bytes rest)) (with_option given (bytes option) (bytes next))) is
      ∙ ap (λ o. option_and_then (λ m. run_command m (map bytes (next ∷ rest))) o) e

  reading_on : (option number : A) (rest : List A) → is_checked (bytes option) ≡ false → with_option given (bytes option) (bytes number) ≡ Some more
      → run_command given (map bytes (option ∷ number ∷ rest)) ≡ run_command more (map bytes rest)
  reading_on option number rest is e =
      ap (λ b. if b then option_and_then (λ m. run_command m (map bytes (number ∷ rest))) (with_checked given)
      else option_and_then (λ m. run_command m (map bytes rest)) (with_option given (bytes option) (bytes number))) is
      ∙ ap (λ o. option_and_then (λ m. run_command m (map bytes rest)) o) e

  -- what words ask that begin with an option and its number is what the words behind these ask
  pub taken : (option number : A) (rest : List A) → 2 ≤ length rest → option ≡ get_or rest 0 option → number ≡ get_or rest 1 number
      → is_checked (bytes option) ≡ false → with_option given (bytes option) (bytes number) ≡ Some more
      → run_command given (map bytes rest) ≡ run_command more (map bytes (take (length rest - 2) (drop 2 rest)))
  taken option number [] two first second is e = absurd (omega arith)
  taken option number (a ∷ []) two first second is e = absurd (omega arith)
  taken option number (a ∷ b ∷ rest) two first second is e =
      let at : with_option given (bytes a) (bytes b) ≡ Some more = rw (first, second) at e in
      let so : is_checked (bytes a) ≡ false = rw first at is in
      reading_on a b rest so at ∙ ap (λ xs. run_command more (map bytes xs)) (sym (rest_of_two a b rest))

  -- what words ask that begin with `--checked` is what the words behind it ask
  pub checked_taken : (option : A) (rest : List A) → 2 ≤ length rest → option ≡ get_or rest 0 option
      → is_checked (bytes option) ≡ true → with_checked given ≡ Some more
      → run_command given (map bytes rest) ≡ run_command more (map bytes (take (length rest - 1) (drop 1 rest)))
  checked_taken option [] two first is e = absurd (omega arith)
  checked_taken option (a ∷ []) two first is e = absurd (omega arith)
  checked_taken option (a ∷ b ∷ rest) two first is e =
      let so : is_checked (bytes a) ≡ true = rw first at is in
      reading_checked a b rest so e ∙ ap (λ xs. run_command more (map bytes xs)) (sym (rest_of_one a (b ∷ rest)))
