-- What each isolate of a run may take, and the numbers that say it.
use Rattle.std.specs.Prelude.{ℕ, ◌≤◌, nat_le, List, length, Bool, ◌&&◌, if◌then◌else◌, Option, Some, None, option_and_then}
use Rattle.std.specs.Char.{is_ascii_digit}
use Rattle.std.specs.List.{list_all}
use Rattle.std.specs.Str.Parse.{digits_value}
use Rattle.dart_base.specs.declared.limit.TheConstants.{STEPS, STORE_UNITS}
use Rattle.dart_words.specs.declared.budget.Budget.{Budget}

-- one to ten digits
abbrev pub is_numeral : List ℕ → Bool
is_numeral word = nat_le 1 (length word) && nat_le (length word) 10 && list_all is_ascii_digit word

-- the number that a word of one to ten digits writes
abbrev pub number_of : List ℕ → Option ℕ
number_of word = if is_numeral word then Some (digits_value 10 word) else None

-- the number that a word writes, where it is from 1 to the greatest
abbrev pub number_within : ℕ → List ℕ → Option ℕ
number_within greatest word =
    option_and_then (λ number. if nat_le 1 number && nat_le number greatest then Some number else None) (number_of word)

-- a budget of one step and one unit or more, and of no more than the product's limits
pub record IsWithinLimits (budget : Budget) : Type 0 where
  pub some_step : 1 ≤ budget.steps
  pub steps : budget.steps ≤ STEPS
  pub some_unit : 1 ≤ budget.units
  pub units : budget.units ≤ STORE_UNITS
