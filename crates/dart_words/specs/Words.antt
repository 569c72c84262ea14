-- What the words of a command line mean.
use Rattle.std.specs.Prelude.{◌==◌, ℕ, List, [], ◌∷◌, Bool, false, not, if◌then◌else◌, Option, Some, None, option_and_then, ⊤, codes}
use Rattle.std.specs.Str.{byte, bytes_eq}
use Rattle.dart_words.specs.declared.options.Given.{Given}
use Rattle.dart_words.specs.declared.words.Verb.{Verb}
use Rattle.dart_words.specs.declared.words.Verb.TheVariants.{Run, Erase}
use Rattle.dart_words.specs.Budget.{IsWithinLimits}
use Rattle.dart_words.specs.Options.{options_of, with_checked, with_option}

-- a command with its file
pub record Command : Type 0 where
  pub verb : Verb
  pub file : List ℕ

-- a word that names a file: it isn't empty and doesn't begin with `-`
abbrev pub is_operand : List ℕ → Bool
is_operand [] = false
is_operand (first ∷ bytes) = not (first == byte "-")

abbrev pub with_file : Verb → List ℕ → Option Command
with_file verb file = if is_operand file then Some (record { verb = verb; file = file }) else None

-- no option
abbrev pub nothing_given : Given
nothing_given = record { checked = false; steps = None; units = None }

-- What the words ask that stand behind `run` and options that gave this: a file alone is run, and two words or more begin with
-- `--checked`, or with an option and its number.
abbrev pub run_command : Given → List (List ℕ) → Option Command
run_command given [] = None
run_command given (file ∷ []) = with_file (Run (options_of given)) file
run_command given (option ∷ next ∷ words) = if bytes_eq option (codes "--checked")
    then option_and_then (λ more. run_command more (next ∷ words)) (with_checked given)
    else option_and_then (λ more. run_command more words) (with_option given option next)

-- what the words behind `erase` ask
abbrev pub erase_command : List (List ℕ) → Option Command
erase_command [] = None
erase_command (file ∷ []) = with_file Erase file
erase_command (file ∷ other ∷ words) = None

-- the command that the words mean, or none
abbrev pub command_of : List (List ℕ) → Option Command
command_of [] = None
command_of (word ∷ words) = if bytes_eq word (codes "run") then run_command nothing_given words
    else if bytes_eq word (codes "erase") then erase_command words
    else None

-- where the command is a run, its budget is within the limits
abbrev pub KeepsLimits : Verb → Type 0
KeepsLimits (Run options) = IsWithinLimits options.budget
KeepsLimits Erase = ⊤
