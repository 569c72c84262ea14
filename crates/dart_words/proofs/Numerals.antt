-- What `parse` answers at words of one to ten digits.
use Rattle.std.specs.Prelude.{Result}
use Rattle.std.specs.Char.{is_ascii_digit}
use Rattle.std.specs.List.{list_all}
use Rattle.std.specs.Result.{result_ok}
use Rattle.std.specs.Str.Parse.{ParsesUnsigned, digits_value}
use Rattle.std.proofs.Common.{◌≡◌, ◌∙◌, ◌≤◌, ℕ, ap, List, Some, None, true, if◌then◌else◌, length, arith, rules, sym}
use Rattle.std.proofs.lemmas.Str.Parse.{IsNumeralModel, numerals_by_value, parse_gives, digits_value_short}
use Rattle.dart_words.specs.Budget.{is_numeral, number_of}

-- digits and their value are those of `parse`
own : IsNumeralModel (λ ds. list_all is_ascii_digit ds ≡ true) (digits_value 10)
own = numerals_by_value _ (search rules)

some_digit : (word : List ℕ) → is_numeral word ≡ true → 1 ≤ length word
some_digit word h = grind arith

few_digits : (word : List ℕ) → is_numeral word ≡ true → length word ≤ 10
few_digits word h = grind arith

digits_alone : (word : List ℕ) → is_numeral word ≡ true → list_all is_ascii_digit word ≡ true
digits_alone word h = grind arith

-- what `parse` answers is the number that the word writes
pub parsed : {E : Type 0} (word : List ℕ) (r : Result ℕ E) → ParsesUnsigned 64 10 word r → is_numeral word ≡ true → result_ok r ≡ number_of word
parsed word r h is =
    let digits = digits_alone word is in
    let short = digits_value_short own word 10 digits (few_digits word is) in
    ap result_ok (parse_gives own 64 word r h digits (some_digit word is) (omega (arith, short)))
    ∙ ap (λ b. if b then Some (digits_value 10 word) else None) (sym is)
