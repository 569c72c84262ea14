-- The options of a run, and what they ask.
use Rattle.std.specs.Prelude.{ℕ, List, true, if◌then◌else◌, Option, Some, None, option_map, unwrap_or, codes}
use Rattle.std.specs.Str.{bytes_eq}
use Rattle.dart_base.specs.declared.limit.TheConstants.{STEPS, STORE_UNITS, USUAL_STEPS, USUAL_STORE_UNITS}
use Rattle.dart_words.specs.declared.options.Given.{Given}
use Rattle.dart_words.specs.declared.options.Options.{Options}
use Rattle.dart_words.specs.Budget.{number_within}

-- the number of an option that was not given before
abbrev pub first_time : Option ℕ → Option ℕ → Option ℕ
first_time None number = number
first_time (Some before) number = None

-- what options and `--checked` give, or none where it was given before
abbrev pub with_checked : Given → Option Given
with_checked given = if given.checked then None else Some (record given { checked = true })

-- what options gave and this one gives, or none where it is no option, has no number within its limit or was given before
abbrev pub with_option : Given → List ℕ → List ℕ → Option Given
with_option given option number =
    let steps = first_time given.steps (number_within STEPS number) in
    let units = first_time given.units (number_within STORE_UNITS number) in
    if bytes_eq option (codes "--steps") then option_map (λ n. record given { steps = Some n }) steps
    else if bytes_eq option (codes "--units") then option_map (λ n. record given { units = Some n }) units
    else None

-- what options ask, with the usual budget in what none gave
abbrev pub options_of : Given → Options
options_of given = record {
  checked = given.checked;
  budget = record { steps = unwrap_or given.steps USUAL_STEPS; units = unwrap_or given.units USUAL_STORE_UNITS };
}
