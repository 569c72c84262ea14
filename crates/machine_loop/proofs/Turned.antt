-- The parts of a turn that are entered.
use Rattle.std.proofs.Common.{◌≡◌, Bool, true, Option, Some, List, [], ◌∷◌, ◌++◌, map, Result, IfOk, subst, sym, ap, ◌∙◌}
use Rattle.dart_ir.specs.declared.value.Value.{Value}
use Rattle.dart_ir.specs.declared.value.Value.TheVariants.{Null}
use Rattle.core_program.specs.View as v
use Rattle.evaluation.specs.State.{Outcome, ends}
use Rattle.evaluation.specs.Sequence.{on_answer, in_order, is_true, chosen}
use Rattle.evaluation.specs.Evaluation.{part}
use Rattle.evaluation.specs.Variables.{copy}
use Rattle.evaluation.specs.Statements.{done, body_of_turn}
use Rattle.machine_frame.specs.declared.around.Around.{Around}
use Rattle.machine_frame.specs.declared.around.Fault.{Fault}
use Rattle.machine_frame.specs.declared.run.Control.{Control}
use Rattle.machine_frame.specs.declared.run.Turn.{Turn}
use Rattle.machine_frame.specs.declared.run.Frame.{Frame}
use Rattle.machine_frame.specs.declared.run.Frame.TheVariants as f
use Rattle.machine_frame.specs.declared.run.Run.{Run}
use Rattle.machine_frame.specs.Outside.{setting_of, world_in}
use Rattle.machine_frame.specs.Frames.{going, seen, below_of, resume, does, mute, IsBeside, loop_of, tested, updated, next_turn, value_or_full}
use Rattle.machine_frame.proofs.Resume.{resume_push}
use Rattle.machine_frame.proofs.Beside.{beside_does}

-- the body, where the condition holds
pub body_begins : (a : Around) (r r' : Run) (t : Turn) (x : Value) → is_true x ≡ true → r'.frames.items ≡ r.frames.items ++ f.Body t ∷ [] → r' ≡ record r { frames = r'.frames }
    → does a r' (λ w. part (v.part t.body.now) w Null) ≡ does a r (λ w. tested w t x)
body_begins a r r' t x h pushed stays =
    let w = world_in a r.depth in
    let o = part (v.part t.body.now) w Null (seen r) in
    ap (λ (q : Run). does a q (λ w. part (v.part t.body.now) w Null)) stays
    ∙ ap (λ (fs : List Frame). mute (resume a (below_of r) fs o)) pushed
    ∙ ap mute (resume_push a (below_of r) r.frames.items (f.Body t) o)
    ∙ ap (λ (b : Bool). mute (resume a (below_of r) r.frames.items (chosen b (body_of_turn (setting_of a) t.target t.copies.now (part (v.part t.update.now) w Null) (part (v.part t.body.now) w Null) (loop_of w t)) done (seen r)))) (sym h)

-- the update, once the copies are made
pub copied_then : (a : Around) (r r' : Run) (t : Turn) (held : Option Value) (x : Value) → held ≡ Some x
    → in_order (map (copy (setting_of a)) t.copies.now) Null (seen r) ≡ ends (value_or_full held) (seen r') → IsBeside r r'
    → does a r' (λ w st. updated w t (part (v.part t.update.now) w Null st)) ≡ does a r (λ w. next_turn w t)
copied_then a r r' t held x some copied beside =
    let w = world_in a r.depth in
    beside_does a r r' beside (λ w st. updated w t (part (v.part t.update.now) w Null st))
    ∙ ap (λ (o : Outcome). mute (resume a (below_of r) r.frames.items (on_answer (λ _ st. updated w t (part (v.part t.update.now) w Null st)) o)))
    (sym (copied ∙ ap (λ (h : Option Value). ends (value_or_full h) (seen r')) some))

-- the same outcome in other words
pub comes_to : (a : Around) (new : Run) (found : Result Control Fault) (x y : Outcome) → x ≡ y → IfOk found (λ k. going a new k ≡ x) → IfOk found (λ k. going a new k ≡ y)
comes_to a new found x y e h = let P : Outcome → Type 0 = λ o. IfOk found (λ k. going a new k ≡ o) in subst P e h
