-- Parameters that are bound.
use Rattle.std.proofs.Common.{◌≡◌, ◌≢◌, ℕ, suc, ◌-◌, Option, Some, None, List, ◌∷◌, sym, ap, subst, ◌∙◌}
use Rattle.dart_ir.specs.declared.value.Value.{Value}
use Rattle.dart_ir.specs.declared.value.Value.TheVariants.{Null}
use Rattle.core_program.specs.Core as c
use Rattle.core_program.specs.Program.{Parameter}
use Rattle.evaluation.specs.State.{answer, ended, out_of_steps, out_of_objects, Outcome, ends, Meaning, World, Given}
use Rattle.evaluation.specs.Sequence.{on_answer}
use Rattle.evaluation.specs.Arguments.{value_for}
use Rattle.evaluation.specs.Evaluation.{part, site, binding}
use Rattle.evaluation.specs.Variables.{declare}
use Rattle.machine_frame.specs.declared.around.Around.{Around}
use Rattle.machine_frame.specs.declared.run.Control.{Control}
use Rattle.machine_frame.specs.declared.run.Control.TheVariants.{Leave}
use Rattle.machine_frame.specs.declared.run.Exit.TheVariants as exit
use Rattle.machine_frame.specs.declared.run.Limit.TheVariants as limit
use Rattle.machine_frame.specs.declared.run.Run.{Run}
use Rattle.machine_frame.specs.Outside.{setting_of, world_in}
use Rattle.machine_frame.specs.Frames.{seen, mute, below_of, going, ending, does, value_or_full, IsBeside}
use Rattle.machine_frame.proofs.Beside.{beside_does}
use Rattle.machine_frame.proofs.Mute.{answers_join, bind_goes}
use Rattle.machine_frame.proofs.Steps.{binding_begins, binding_stops}

module _ (a : Around) (r : Run) (g : Given) (q : Parameter ℕ) (qs : List (Parameter ℕ)) (i : ℕ) (body : c.Part ℕ) where
  abbrev whole : Outcome
  whole = does a r (λ w. binding w g (q ∷ qs) i (part body w Null))

  abbrev behind : Given → ℕ → World → Meaning
  behind g n w = binding w g qs n (part body w Null)

  -- no step is left
  pub bind_stops : r.left ≡ 0 → going a r (Leave (exit.Over limit.OutOfSteps)) ≡ whole
  bind_stops h =
      let w = world_in a r.depth in
      ap (λ (n : ℕ). ending a r (ends (ended out_of_steps) (record (seen r) { left = n }))) h
      ∙ ap (ending a r) (sym (binding_stops w g q qs i (part body w Null) (seen r) h))

  abbrev after : Run
  after = record r { left = r.left - 1 }

  -- the value is refused at its site, whatever would go on with it
  pub bind_refused : (m : Run) (control : Control) (value : Value) → r.left ≢ 0 → value ≡ value_for g i q
      → ((go : World → Value → Meaning) → going a m control ≡ does a after (λ w st. on_answer (go w) (site w q.site value st)))
      → going a m control ≡ whole
  bind_refused m control value left is refused =
      let w = world_in a r.depth in
      refused (λ w x st. on_answer (λ _. behind g (suc i) w) (declare w.setting q.var x st))
      ∙ ap (ending a r) (answers_join (declare (setting_of a) q.var) (λ _. behind g (suc i) w) (site w q.site value (seen after)))
      ∙ ap (λ (x : Value). ending a r (on_answer (λ _. behind g (suc i) w) (on_answer (declare (setting_of a) q.var) (site w q.site x (seen after))))) is
      ∙ ap (ending a r) (sym (binding_begins w g q qs i (part body w Null) (seen r) left))

  -- the value is admitted, and the run is as it was then
  module _ (n : Run) (same : n ≡ after) (m : Run) (value : Value) (made : Option Value) (left : r.left ≢ 0) (is : value ≡ value_for g i q)
      (admitted : mute (site (world_in a r.depth) q.site value (seen after)) ≡ mute (ends (answer value) (seen after)))
      (declared_there : declare (setting_of a) q.var value (seen n) ≡ ends (value_or_full made) (seen m))
      (beside_there : IsBeside n m) where
    declared : declare (setting_of a) q.var value (seen after) ≡ ends (value_or_full made) (seen m)
    declared = ap (λ (x : Run). declare (setting_of a) q.var value (seen x)) (sym same) ∙ declared_there

    beside : IsBeside after m
    beside = subst (λ (x : Run). IsBeside x m) same beside_there

    bound_with : (o : Option Value) → made ≡ o → ending a r (on_answer (λ _. behind g (suc i) (world_in a r.depth)) (ends (value_or_full o) (seen m))) ≡ whole
    bound_with o e =
        let w = world_in a r.depth in
        let go : Outcome → Outcome = on_answer (λ _. behind g (suc i) w) in
        ap (λ (o : Option Value). ending a r (go (ends (value_or_full o) (seen m)))) (sym e)
        ∙ ap (λ (o : Outcome). ending a r (go o)) (sym declared)
        ∙ bind_goes a r.depth (below_of r) r.frames.items g qs (suc i) body q.var q.site value (seen after) admitted
        ∙ ap (λ (v : Value). ending a r (go (on_answer (declare (setting_of a) q.var) (site w q.site v (seen after))))) is
        ∙ ap (ending a r) (sym (binding_begins w g q qs i (part body w Null) (seen r) left))

    -- the units don't suffice for its cell
    pub bind_full : made ≡ None → going a m (Leave (exit.Over limit.OutOfObjects)) ≡ whole
    bind_full e = beside_does a after m beside (λ w st. ends (ended out_of_objects) st) ∙ bound_with None e

    -- those behind it come next
    pub bind_goes_on : (x : Value) (other : Given) (next : ℕ) → made ≡ Some x → other ≡ g → next ≡ suc i → does a m (behind other next) ≡ whole
    bind_goes_on x other next e same following =
        ap (λ (g : Given). does a m (behind g next)) same ∙ ap (λ (n : ℕ). does a m (behind g n)) following
        ∙ beside_does a after m beside (behind g (suc i)) ∙ bound_with (Some x) e
