-- Files in which a program stands without its annotations, and what becomes of it.
use Rattle.std.specs.Prelude.{◌≡◌, ℕ, List, false, IsSome}
use Rattle.dart_edge.specs.Files.{Files, file_of}
use Rattle.dart_tool.specs.declared.outcome.Outcome.{Outcome}
use Rattle.dart_tool.specs.declared.status.Refusal.TheVariants.{NotBuilt}
use Rattle.dart_tool.specs.declared.status.Status.TheVariants.{Refused}
use Rattle.dart_tool.specs.Laws.{AskRun, within}
use Rattle.dart_tool.specs.Outcome.{IsOutcome, refused}
use Rattle.dart_tool.specs.Program.{IsSound}
use Rattle.dart_words.specs.declared.budget.Budget.{Budget}
use Rattle.laws_annotation.specs.Erased.{erased_state}
use Rattle.scope_load.specs.State.{State}

-- From this root the files spell a program, and the others the same program with its units erased, each token that is left at its place.
pub record SpellErased (files others : Files) (root : List ℕ) : Type 0 where
  pub state : State
  pub sound : IsSound files root state
  pub there : IsSome (file_of others root)
  pub erased : IsSound others root (erased_state state)

-- it was run: it is not refused, nor is it what isn't built
abbrev pub IsRun : Outcome → Type 0
IsRun out = out.status ≡ Refused → ⊥

-- it is not answered as what isn't built
abbrev pub HasAnswer : List ℕ → Outcome → Type 0
HasAnswer name out = out ≡ refused NotBuilt name → ⊥

-- In production a program that runs and the program without its annotations have one outcome, where the second is not answered as what isn't built:
-- it is refused for no reason.
abbrev pub ErasedOutcomesAreOne : Type 0
ErasedOutcomesAreOne = (words : List (List ℕ)) (files others : Files) (budget : Budget) (name : List ℕ) (out other : Outcome)
    → AskRun words (within budget false) name → SpellErased files others name
    → IsOutcome words files out → IsOutcome words others other → IsRun out → HasAnswer name other → other ≡ out
