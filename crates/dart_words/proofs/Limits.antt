-- The budgets that words ask for are within the limits.
use Rattle.std.specs.Prelude.{MatchOption, IfSome, ◌&&◌, option_and_then, option_map, unwrap_or}
use Rattle.std.specs.Str.{bytes_eq}
use Rattle.std.proofs.Common.{◌≡◌, ◌≤◌, ℕ, List, [], ◌∷◌, Bool, true, false, Option, Some, None, if◌then◌else◌, nat_le, subst, refl, codes, lit≤, arith}
use Rattle.dart_base.specs.declared.limit.TheConstants.{STEPS, STORE_UNITS, USUAL_STEPS, USUAL_STORE_UNITS}
use Rattle.dart_words.specs.declared.options.Given.{Given}
use Rattle.dart_words.specs.declared.words.Verb.{Verb}
use Rattle.dart_words.specs.declared.words.Verb.TheVariants.{Run}
use Rattle.dart_words.specs.Budget.{IsWithinLimits, number_of, number_within}
use Rattle.dart_words.specs.Options.{first_time, options_of, with_checked, with_option}
use Rattle.dart_words.specs.Words.{Command, KeepsLimits, is_operand, nothing_given, run_command, with_file}

-- a number from 1 to the greatest
record IsFrom1 (greatest number : ℕ) : Type 0 where
  some : 1 ≤ number
  most : number ≤ greatest

-- what options gave is within the limits
record AreWithin (given : Given) : Type 0 where
  steps : IfSome given.steps (IsFrom1 STEPS)
  units : IfSome given.units (IsFrom1 STORE_UNITS)

tested : (greatest number : ℕ) (b : Bool) → b ≡ nat_le 1 number && nat_le number greatest → IfSome (if b then Some number else None) (IsFrom1 greatest)
tested greatest number false is = tt
tested greatest number true is = record { some = grind arith; most = grind arith }

-- a number that a word writes
within : (greatest : ℕ) (o : Option ℕ) → IfSome (option_and_then (λ number. if nat_le 1 number && nat_le number greatest then Some number else None) o) (IsFrom1 greatest)
within greatest None = tt
within greatest (Some number) = tested greatest number (nat_le 1 number && nat_le number greatest) refl

first_within : (greatest : ℕ) (before : Option ℕ) (word : List ℕ) → IfSome (first_time before (number_within greatest word)) (IsFrom1 greatest)
first_within greatest None word = within greatest (number_of word)
first_within greatest (Some n) word = tt

steps_within : (given : Given) (o : Option ℕ) → AreWithin given → IfSome o (IsFrom1 STEPS) → IfSome (option_map (λ n. record given { steps = Some n }) o) AreWithin
steps_within given None h is = tt
steps_within given (Some n) h is = record { steps = is; units = h.units }

units_within : (given : Given) (o : Option ℕ) → AreWithin given → IfSome o (IsFrom1 STORE_UNITS) → IfSome (option_map (λ n. record given { units = Some n }) o) AreWithin
units_within given None h is = tt
units_within given (Some n) h is = record { steps = h.steps; units = is }

-- what holds of either of two values
chosen : {A : Type 0} (P : A → Type 0) (b : Bool) (x y : Option A) → IfSome x P → IfSome y P → IfSome (if b then x else y) P
chosen P true x y h k = h
chosen P false x y h k = k

-- `--checked` more
checked_within : (given : Given) → AreWithin given → IfSome (with_checked given) AreWithin
checked_within given h = chosen AreWithin given.checked None (Some (record given { checked = true })) tt (record { steps = h.steps; units = h.units })

-- one option more
option_within : (given : Given) (option number : List ℕ) → AreWithin given → IfSome (with_option given option number) AreWithin
option_within given option number h =
    chosen AreWithin (bytes_eq option (codes "--steps")) _ _ (steps_within given _ h (first_within STEPS given.steps number))
    (chosen AreWithin (bytes_eq option (codes "--units")) _ None (units_within given _ h (first_within STORE_UNITS given.units number)) tt)

usual_from_1 : (greatest usual : ℕ) (o : Option ℕ) → IsFrom1 greatest usual → IfSome o (IsFrom1 greatest) → IsFrom1 greatest (unwrap_or o usual)
usual_from_1 greatest usual None h is = h
usual_from_1 greatest usual (Some n) h is = is

-- a budget whose options are within the limits is
budget_within : (given : Given) → AreWithin given → IsWithinLimits (options_of given).budget
budget_within given h =
    let steps = usual_from_1 STEPS USUAL_STEPS given.steps (record { some = lit≤ tt; most = lit≤ tt }) h.steps in
    let units = usual_from_1 STORE_UNITS USUAL_STORE_UNITS given.units (record { some = lit≤ tt; most = lit≤ tt }) h.units in
    record { some_step = steps.some; steps = steps.most; some_unit = units.some; units = units.most }

file_keeps : (verb : Verb) (file : List ℕ) → KeepsLimits verb → IfSome (with_file verb file) (λ c. KeepsLimits c.verb)
file_keeps verb file h = chosen (λ (c : Command). KeepsLimits c.verb) (is_operand file) (Some (record { verb = verb; file = file })) None h tt

more_keeps : (given : Option Given) (words : List (List ℕ)) → IfSome given AreWithin → ((g : Given) → AreWithin g → IfSome (run_command g words) (λ c. KeepsLimits c.verb)) → IfSome (option_and_then (λ more. run_command more words) given) (λ c. KeepsLimits c.verb)
more_keeps None words h keeps = tt
more_keeps (Some given) words h keeps = keeps given h

-- so are all that are read
run_keeps : (given : Given) (words : List (List ℕ)) → AreWithin given → IfSome (run_command given words) (λ c. KeepsLimits c.verb)
run_keeps given [] h = tt
run_keeps given (file ∷ []) h = file_keeps (Run (options_of given)) file (budget_within given h)
run_keeps given (option ∷ next ∷ words) h =
    chosen (λ (c : Command). KeepsLimits c.verb) (bytes_eq option (codes "--checked")) _ _
    (more_keeps (with_checked given) (next ∷ words) (checked_within given h) (λ more is. run_keeps more (next ∷ words) is))
    (more_keeps (with_option given option next) words (option_within given option next h) (λ more is. run_keeps more words is))

-- what is read of the words behind `run` keeps the limits
pub asked_keeps : {F : Type 0} (bytes : F → List ℕ) (words : List (List ℕ)) (result : Option (Verb × F)) → MatchOption result (run_command nothing_given words ≡ None) (λ asked. run_command nothing_given words ≡ Some (record { verb = asked.0; file = bytes asked.1 })) → IfSome result (λ asked. KeepsLimits asked.0)
asked_keeps bytes words None is = tt
asked_keeps bytes words (Some asked) is = subst (λ (o : Option Command). IfSome o (λ c. KeepsLimits c.verb)) is (run_keeps nothing_given words (record { steps = tt; units = tt }))
