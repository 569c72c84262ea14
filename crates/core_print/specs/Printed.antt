-- What a call writes and answers, from its words and files.
use Rattle.std.specs.Prelude.{◌≡◌, ◌⊎◌, ℕ, List, [], ◌∷◌, Option, None, Some, codes}
use Rattle.dart_edge.specs.Files.{Files}
use Rattle.dart_tool.specs.declared.outcome.Outcome.{Outcome}
use Rattle.dart_tool.specs.declared.status.Status.{Status}
use Rattle.dart_tool.specs.declared.status.Status.TheVariants.{Done, Usage, ReadFault, Memory}
use Rattle.dart_tool.specs.Outcome.{IsOutcome}
use Rattle.dart_tool.specs.Tool.{Answers, Delivers}
use Rattle.core_print.specs.Root.{FileShows}

-- what was written before a call and after it
abbrev pub Written : Type 0
Written = Option (List ℕ)

-- the text of a core
abbrev pub core_outcome : List ℕ → Outcome
core_outcome bytes = record { status = Done; bytes = bytes }

-- the line that says how the program is called
abbrev pub usage_outcome : Outcome
usage_outcome = record { status = Usage; bytes = codes "usage: core_print FILE [NAME]\n" }

-- the words with which `dart` runs a file
abbrev pub run_words : List ℕ → List (List ℕ)
run_words file = codes "run" ∷ file ∷ []

-- The text of its core is written.
abbrev pub PrintsCore : Files → List ℕ → Option (List ℕ) → Status → Written → Written → Type 0
PrintsCore files file name status before after =
    (bytes : List ℕ) × FileShows files file name (Some bytes) × Delivers (core_outcome bytes) status before after

-- It has no core, and what is written and answered is what `dart run` writes and answers: the first reason against the program.
abbrev pub RunsInstead : Files → List ℕ → Option (List ℕ) → Status → Written → Written → Type 0
RunsInstead files file name status before after =
    FileShows files file name None × Answers (IsOutcome (run_words file) files) status before after

-- A file can't be read, or memory runs out, before anything is written.
abbrev pub Stops : Status → Written → Written → Type 0
Stops status before after = ((status ≡ ReadFault) ⊎ (status ≡ Memory)) × (after ≡ before)

-- What is done with a file, of which all of the root is shown or what has a name.
abbrev pub FilePrints : Files → List ℕ → Option (List ℕ) → Status → Written → Written → Type 0
FilePrints files file name status before after =
    PrintsCore files file name status before after ⊎ (RunsInstead files file name status before after ⊎ Stops status before after)

-- What is done with words: a file, and a name if there is one.
abbrev pub WordsPrint : List (List ℕ) → Files → Status → Written → Written → Type 0
WordsPrint (file ∷ []) files status before after = FilePrints files file None status before after
WordsPrint (file ∷ name ∷ []) files status before after = FilePrints files file (Some name) status before after
WordsPrint words files status before after = Delivers usage_outcome status before after
