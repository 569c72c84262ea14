-- What the tool answers over devices that never fail, and what checked mode changes.
use Rattle.std.specs.Prelude.{◌≡◌, ◌++◌, ℕ, List, Bool, true, false, Some}
use Rattle.dart_edge.specs.Files.{Files}
use Rattle.dart_edge.specs.Writes.{IsPrefix}
use Rattle.dart_words.specs.declared.budget.Budget.{Budget}
use Rattle.dart_words.specs.declared.options.Options.{Options}
use Rattle.dart_words.specs.declared.words.Verb.TheVariants as v
use Rattle.dart_words.specs.Words.{command_of}
use Rattle.laws_checked.specs.Written.{WriteUntilReport}
use Rattle.dart_tool.specs.declared.outcome.Outcome.{Outcome}
use Rattle.dart_tool.specs.declared.status.Status.{Status}
use Rattle.dart_tool.specs.declared.status.Status.TheVariants.{ReadFault, WriteFault, Memory}
use Rattle.dart_tool.specs.Outcome.{IsOutcome}

-- No fault, and but for being out of memory the outcome's status and all its bytes.
abbrev pub AnswersSafely : List (List ℕ) → Files → Status → List ℕ → List ℕ → Type 0
AnswersSafely words files ReadFault before after = ⊥
AnswersSafely words files WriteFault before after = ⊥
AnswersSafely words files Memory before after =
    (prefix : List ℕ) × (after ≡ before ++ prefix) ×
    ((out : Outcome) → IsOutcome words files out → IsPrefix prefix out.bytes)
AnswersSafely words files status before after =
    (out : Outcome) × IsOutcome words files out × (status ≡ out.status) × (after ≡ before ++ out.bytes)

-- ---- checked mode

-- the options of a run within a budget, in checked mode or in production
abbrev pub within : Budget → Bool → Options
within budget checked = record { checked = checked; budget = budget }

-- the words ask for the run of this file
abbrev pub AskRun : List (List ℕ) → Options → List ℕ → Type 0
AskRun words options name = command_of words ≡ Some (record { verb = v.Run options; file = name })

-- The same status and bytes; or bytes that are the same up to the report of a check that fails.
pub data FollowsOutcome (production checked : Outcome) : Type 0 where
  outcome_same : checked ≡ production → FollowsOutcome production checked
  until_report : WriteUntilReport production.bytes checked.bytes → FollowsOutcome production checked

-- The outcome of a checked run of a file follows that of its run in production within the same budget.
abbrev pub CheckedOutcomesFollow : Type 0
CheckedOutcomesFollow = (words checked_words : List (List ℕ)) (files : Files) (budget : Budget) (name : List ℕ) (out other : Outcome)
    → AskRun words (within budget false) name → AskRun checked_words (within budget true) name
    → IsOutcome words files out → IsOutcome checked_words files other → FollowsOutcome out other
