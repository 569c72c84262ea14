-- The outcome of a checked run beside that of the run in production.
use Rattle.std.proofs.Common.{◌≡◌, ◌∙◌, sym, ap, subst, refl, ℕ, List, true, false, Option, None, Some, inl, inr}
use Rattle.dart_base.specs.declared.place.Place.{Place}
use Rattle.dart_edge.specs.Files.{Files, file_of}
use Rattle.dart_execute.specs.declared.cause.Cause.{Cause}
use Rattle.dart_execute.specs.declared.execution.Execution.{Execution}
use Rattle.dart_execute.specs.declared.execution.Execution.TheVariants as execution
use Rattle.dart_execute.specs.Execution.{ExecutesAs, allowed}
use Rattle.dart_execute.specs.Laws as e
use Rattle.dart_execute.specs.Laws.{FollowsExecution}
use Rattle.dart_execute.proofs.Checked.{checked_executions_follow, executes_also}
use Rattle.dart_run.specs.declared.mode.Mode.TheVariants.{Production, Checked}
use Rattle.dart_run.specs.declared.written.Written.{Written}
use Rattle.dart_words.specs.declared.budget.Budget.{Budget}
use Rattle.dart_words.specs.Words.{Command}
use Rattle.laws_checked.specs.Written.{WriteUntilReport}
use Rattle.scope_load.specs.State.{State}
use Rattle.dart_tool.specs.declared.outcome.Outcome.{Outcome}
use Rattle.dart_tool.specs.declared.program.FileRefusal.{FileRefusal}
use Rattle.dart_tool.specs.Laws.{within, FollowsOutcome, outcome_same, until_report, CheckedOutcomesFollow}
use Rattle.dart_tool.specs.Outcome.{FileGives, CommandGives, written_outcome}
use Rattle.dart_tool.specs.Program.{Finishes, IsSound}
use Rattle.dart_tool.proofs.Outcomes.{one_file_outcome}
use Rattle.dart_tool.proofs.ProgramLaws.{AnyRefused}

-- ---- what is refused is refused in both modes

to_refused : (place : Place) (cause : Cause) (y : Execution) → FollowsExecution (execution.Refused place cause) y → y ≡ execution.Refused place cause
to_refused place cause y (e.execution_same is) = is
to_refused place cause y (e.until_report made also is so writes) = absurd cc

from_refused : (place : Place) (cause : Cause) (x : Execution) → FollowsExecution x (execution.Refused place cause) → x ≡ execution.Refused place cause
from_refused place cause x (e.execution_same is) = sym is
from_refused place cause x (e.until_report made also is so writes) = absurd cc

module _ (budget : Budget) (state : State) where
  in_checked : (x : Execution) → ExecutesAs state (within budget false) x
      → (y : Execution) × ExecutesAs state (within budget true) y × FollowsExecution x y
  in_checked x is =
      let (y, so) = executes_also Production Checked (allowed budget) state x is in
      (y, so, checked_executions_follow state (allowed budget) x y is so)

  in_production : (y : Execution) → ExecutesAs state (within budget true) y
      → (x : Execution) × ExecutesAs state (within budget false) x × FollowsExecution x y
  in_production y so =
      let (x, is) = executes_also Checked Production (allowed budget) state y so in
      (x, is, checked_executions_follow state (allowed budget) x y is so)

module _ (files : Files) (name : List ℕ) (budget : Budget) where
  refused_checked : (against : FileRefusal) → AnyRefused files name (within budget false) against
      → AnyRefused files name (within budget true) against
  refused_checked against (inl x) = inl x
  refused_checked against (inr (state, place, cause, sound, is, same)) =
      let (y, so, follows) = in_checked budget state (execution.Refused place cause) is in
      inr (state, place, cause, sound, subst (ExecutesAs state (within budget true)) (to_refused place cause y follows) so, same)

  refused_plainly : (against : FileRefusal) → AnyRefused files name (within budget true) against
      → AnyRefused files name (within budget false) against
  refused_plainly against (inl x) = inl x
  refused_plainly against (inr (state, place, cause, sound, so, same)) =
      let (x, is, follows) = in_production budget state (execution.Refused place cause) so in
      inr (state, place, cause, sound, subst (ExecutesAs state (within budget false)) (from_refused place cause x follows) is, same)

  -- ---- what a root with this text gives

  finishes_checked : (state : State) (made : Written) → IsSound files name state
      → (y : Execution) → y ≡ execution.Ran made → ExecutesAs state (within budget true) y → Finishes files name (within budget true) made
  finishes_checked state made sound y is so = (state, sound, subst (ExecutesAs state (within budget true)) is so)

  unwritten : ((made : Written) → Finishes files name (within budget false) made → ⊥)
      → (made : Written) → Finishes files name (within budget true) made → ⊥
  unwritten nothing made (state, sound, so) =
      let (x, is, follows) = in_production budget state (execution.Ran made) so in
      elim follows [
        | e.execution_same same ↦ nothing made (state, sound, subst (ExecutesAs state (within budget false)) (sym same) is)
        | e.until_report plain also same other writes ↦
            nothing plain (state, sound, subst (ExecutesAs state (within budget false)) same is)
      ]

  module _ (text : List ℕ) (out other : Outcome) (gives : FileGives name files (within budget true) (Some text) other) where
    -- it has this outcome in checked mode as well
    also : FileGives name files (within budget true) (Some text) out → FollowsOutcome out other
    also given = outcome_same (one_file_outcome name files (within budget true) (Some text) other out gives given)

    ran_follows : (state : State) (made : Written) → IsSound files name state → out ≡ written_outcome made
        → (y : Execution) → ExecutesAs state (within budget true) y → FollowsExecution (execution.Ran made) y → FollowsOutcome out other
    ran_follows state made sound is y so (e.execution_same same) =
        also (inr (inl (made, finishes_checked state made sound y same so, is)))
    ran_follows state made sound is y so (e.until_report plain checked same checks writes) =
        let other_is : other ≡ written_outcome checked =
        one_file_outcome name files (within budget true) (Some text) other (written_outcome checked) gives
        (inr (inl (checked, finishes_checked state checked sound y checks so, refl))) in
        let one : made ≡ plain = cc in
        until_report (subst (λ (o : Outcome). WriteUntilReport o.bytes other.bytes) (ap written_outcome (sym one) ∙ sym is)
        (subst (λ (o : Outcome). WriteUntilReport plain.bytes o.bytes) (sym other_is) writes))

    text_follows : FileGives name files (within budget false) (Some text) out → FollowsOutcome out other
    text_follows (inl (against, refused, is)) = also (inl (against, refused_checked against refused, is))
    text_follows (inr (inl (made, (state, sound, ran), is))) =
        let (y, so, follows) = in_checked budget state (execution.Ran made) ran in
        ran_follows state made sound is y so follows
    text_follows (inr (inr (none, nothing, is))) = also (inr (inr (
      (λ against refused. none against (refused_plainly against refused)),
      unwritten nothing,
      is,
    )))

  file_follows : (content : Option (List ℕ)) (out other : Outcome)
      → FileGives name files (within budget false) content out → FileGives name files (within budget true) content other → FollowsOutcome out other
  file_follows None out other is so = outcome_same (so ∙ sym is)
  file_follows (Some text) out other is so = text_follows text out other so is

pub checked_outcomes_follow : CheckedOutcomesFollow
checked_outcomes_follow words checked_words files budget name out other asks checks is so =
    file_follows files name budget (file_of files name) out other
    (subst (λ (command : Option Command). CommandGives command files out) asks is)
    (subst (λ (command : Option Command). CommandGives command files other) checks so)
