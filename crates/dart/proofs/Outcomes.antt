-- The outcome of the erased program is that of the program.
use Rattle.std.specs.Prelude.{IsSome}
use Rattle.std.proofs.Common.{◌≡◌, ◌∙◌, sym, ap, subst, refl, ℕ, List, false, Option, None, Some, inl, inr}
use Rattle.dart_edge.specs.Files.{Files, file_of}
use Rattle.dart_execute.specs.Execution.{ExecutesAs, allowed}
use Rattle.dart_execute.specs.declared.execution.Execution.{Execution}
use Rattle.dart_execute.specs.declared.execution.Execution.TheVariants as execution
use Rattle.dart_run.specs.declared.written.Written.{Written}
use Rattle.dart_tool.specs.declared.outcome.Outcome.{Outcome}
use Rattle.dart_tool.specs.Laws.{within}
use Rattle.dart_tool.specs.Outcome.{FileGives, CommandGives, written_outcome}
use Rattle.dart_tool.specs.Program.{Finishes, IsSound}
use Rattle.dart_tool.proofs.ProgramLaws.{loaded_unrefused}
use Rattle.dart_words.specs.declared.budget.Budget.{Budget}
use Rattle.dart_words.specs.Words.{Command}
use Rattle.laws_annotation.specs.Erased.{erased_state}
use Rattle.laws_execution.proofs.Erased.{erased_runs}
use Rattle.scope_files.proofs.FileLaws.{one_name}
use Rattle.scope_files.proofs.LoadLaws.{one_end}
use Rattle.scope_files.specs.Files.{NameGives}
use Rattle.scope_load.specs.State.{State}
use Rattle.dart.specs.Erased.{SpellErased, IsRun, HasAnswer, ErasedOutcomesAreOne}

-- the units of a program are these alone
one_state : (files : Files) (root : List ℕ) (state other : State) → IsSound files root state → IsSound files root other → other ≡ state
one_state files root state other sound also =
    one_end (NameGives (Some files)) root (one_name files) other state also.loads.0 sound.loads.0

-- what ran of a program whose units are these
ran_of : (files : Files) (root : List ℕ) (budget : Budget) (state : State) (made : Written) → IsSound files root state
    → Finishes files root (within budget false) made → ExecutesAs state (within budget false) (execution.Ran made)
ran_of files root budget state made sound (other, also, is) =
    subst (λ (s : State). ExecutesAs s (within budget false) (execution.Ran made)) (one_state files root state other sound also) is

-- what is run of a file that is there writes this
given : (files : Files) (name : List ℕ) (budget : Budget) (content : Option (List ℕ)) (out : Outcome) → IsRun out
    → FileGives name files (within budget false) content out
    → (made : Written) × Finishes files name (within budget false) made × (out ≡ written_outcome made)
given files name budget None out runs is = absurd (runs (ap (λ (o : Outcome). o.status) is))
given files name budget (Some text) out runs (inl (against, has, is)) = absurd (runs (ap (λ (o : Outcome). o.status) is))
given files name budget (Some text) out runs (inr (inl (made, finishes, is))) = (made, finishes, is)
given files name budget (Some text) out runs (inr (inr (none, nothing, is))) = absurd (runs (ap (λ (o : Outcome). o.status) is))

-- where nothing else becomes of a program than that it writes this, so does what is given for its text
module _ (files : Files) (name : List ℕ) (budget : Budget) (state : State) (made : Written) (sound : IsSound files name state)
    (alone : (is : Execution) → ExecutesAs state (within budget false) is → is ≡ execution.Ran made) where
  only : (content : Option (List ℕ)) (out : Outcome) → IsSome content → HasAnswer name out
      → FileGives name files (within budget false) content out → out ≡ written_outcome made
  only None out there answered gives = absurd cc
  only (Some text) out there answered (inl (against, inl reason, is)) = absurd (loaded_unrefused files name state against sound reason)
  only (Some text) out there answered (inl (against, inr (other, place, cause, also, found, e), is)) =
      let one : execution.Refused place cause ≡ execution.Ran made =
      alone (execution.Refused place cause)
      (subst (λ (s : State). ExecutesAs s (within budget false) (execution.Refused place cause)) (one_state files name state other sound also) found) in
      absurd cc
  only (Some text) out there answered (inr (inl (again, finishes, is))) =
      let one : execution.Ran again ≡ execution.Ran made = alone (execution.Ran again) (ran_of files name budget state again sound finishes) in
      let same : again ≡ made = cc in
      is ∙ ap written_outcome same
  only (Some text) out there answered (inr (inr (none, nothing, is))) = absurd (answered is)

pub erased_outcomes_are_one : ErasedOutcomesAreOne
erased_outcomes_are_one words files others budget name out other asks spell is so runs answered =
    let (made, finishes, e) = given files name budget (file_of files name) out runs
    (subst (λ (command : Option Command). CommandGives command files out) asks is) in
    let run : ExecutesAs spell.state (within budget false) (execution.Ran made) = ran_of files name budget spell.state made spell.sound finishes in
    only others name budget (erased_state spell.state) made spell.erased (λ found h. erased_runs spell.state (allowed budget) made found run h)
    (file_of others name) other spell.there answered (subst (λ (command : Option Command). CommandGives command others other) asks so)
    ∙ sym e
