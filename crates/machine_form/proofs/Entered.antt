-- Forms that are entered, and operands that are answered at once.
use Rattle.std.specs.Borrow.{Bor}
use Rattle.std.proofs.Common.{◌≡◌, ◌≢◌, ℕ, ◌-◌, true, Option, Some, List, [], ◌∷◌, ◌++◌, Result, IfOk, subst, sym, ap, ◌∙◌}
use Rattle.dart_base.specs.declared.place.Place.{Place}
use Rattle.dart_ir.specs.declared.value.Value.{Value}
use Rattle.core_program.specs.declared.form.Core.{Core}
use Rattle.core_program.specs.declared.form.Form.TheViews.{out-Core}
use Rattle.core_program.specs.Core as c
use Rattle.core_program.specs.View as v
use Rattle.core_program.proofs.Views.{core_out}
use Rattle.evaluation.specs.State.{answer, ended, out_of_steps, Outcome, ends, Meaning, World}
use Rattle.evaluation.specs.Parts.{takes_step}
use Rattle.evaluation.specs.Values.{class_of}
use Rattle.evaluation.specs.Invocation.{get_from, get, set_from, set}
use Rattle.evaluation.specs.Evaluation.{eval, act}
use Rattle.machine_frame.specs.declared.around.Around.{Around}
use Rattle.machine_frame.specs.declared.around.Fault.{Fault}
use Rattle.machine_frame.specs.declared.run.Control.{Control}
use Rattle.machine_frame.specs.declared.run.Exit.TheVariants as exit
use Rattle.machine_frame.specs.declared.run.Limit.TheVariants as limit
use Rattle.machine_frame.specs.declared.run.Control.TheVariants.{Leave}
use Rattle.machine_frame.specs.declared.run.Frame.{Frame}
use Rattle.machine_frame.specs.declared.run.Frame.TheVariants as f
use Rattle.machine_frame.specs.declared.run.Run.{Run}
use Rattle.machine_frame.specs.Outside.{setting_of, world_in}
use Rattle.machine_frame.specs.Labels.{within, labels, labelled_all}
use Rattle.machine_frame.specs.Frames.{seen, below_of, below, resumed, resume, mute, going, ending, does}
use Rattle.evaluation.proofs.Kept.{Keeps}
use Rattle.machine_frame.proofs.Mute.{answered_goes}
use Rattle.machine_frame.proofs.Resume.{resume_push}
use Rattle.machine_frame.proofs.Steps.{form_enters, form_enters_not}
use Rattle.machine_frame.proofs.Labels.{labels_eval, labels_end, none_left}

-- a frame is pushed
pub does_pushed : (a : Around) (r m : Run) (frame : Frame) (go : World → Meaning) → m.frames.items ≡ r.frames.items ++ frame ∷ [] → m ≡ record r { frames = m.frames }
    → does a m go ≡ mute (resume a (below (below_of r) frame) r.frames.items (resumed (world_in a r.depth) (below_of r) frame (go (world_in a r.depth) (seen r))))
does_pushed a r m frame go h is =
    ap (λ (q : Run). mute (resume a (below_of q) m.frames.items (go (world_in a q.depth) (seen q)))) is
    ∙ ap (λ (l : List Frame). mute (resume a (below_of r) l (go (world_in a r.depth) (seen r)))) h
    ∙ ap mute (resume_push a (below_of r) r.frames.items frame (go (world_in a r.depth) (seen r)))

module _ (a : Around) (r : Run) where
  -- a form takes its step
  pub form_begins : (core : Core) → takes_step (v.form (out-Core core).form) ≡ true → r.left ≢ 0
      → does a (record r { left = r.left - 1 }) (act (v.form (out-Core core).form) (out-Core core).place) ≡ does a r (eval (v.core core))
  form_begins core s h =
      ap (ending a r) (sym (form_enters (out-Core core).place (v.form (out-Core core).form) (world_in a r.depth) (seen r) s h))
      ∙ ap (λ (x : c.Core ℕ). does a r (eval x)) (sym (core_out core))

  -- no step is left for a form
  pub form_stops : (core : Core) → takes_step (v.form (out-Core core).form) ≡ true → r.left ≡ 0
      → going a r (Leave (exit.Over limit.OutOfSteps)) ≡ does a r (eval (v.core core))
  form_stops core s h =
      ap (λ (n : ℕ). ending a r (ends (ended out_of_steps) (record (seen r) { left = n }))) h
      ∙ ap (ending a r) (sym (form_enters_not (out-Core core).place (v.form (out-Core core).form) (world_in a r.depth) (seen r) s h))
      ∙ ap (λ (x : c.Core ℕ). does a r (eval x)) (sym (core_out core))

  -- a statement with labels, and none of its steps left
  pub labels_stop : (core : Core) → r.left ≡ 0 → going a r (Leave (exit.Over limit.OutOfSteps)) ≡ does a r (eval (v.core core))
  labels_stop core h =
      let w = world_in a r.depth in
      ap (λ (n : ℕ). ending a r (ends (ended out_of_steps) (record (seen r) { left = n }))) h
      ∙ ap (ending a r) (sym (labels_eval (v.core core) w (seen r)
      ∙ ap (labelled_all (labels (v.core core))) (none_left a r.depth (v.core core) (seen r) h)
      ∙ labels_end (labels (v.core core)) out_of_steps (record (seen r) { left = 0 })))

  -- the statement within labels
  pub labels_go : (m : Run) (core : Bor Core) (inner : c.Core ℕ) → m.frames.items ≡ r.frames.items ++ f.Labelled core ∷ [] → m ≡ record r { frames = m.frames }
      → inner ≡ within (v.core core.now) → does a m (eval inner) ≡ does a r (eval (v.core core.now))
  labels_go m core inner h is e =
      does_pushed a r m (f.Labelled core) (eval inner) h is
      ∙ ap (λ (x : c.Core ℕ). ending a r (labelled_all (labels (v.core core.now)) (eval x (world_in a r.depth) (seen r)))) e
      ∙ ap (ending a r) (sym (labels_eval (v.core core.now) (world_in a r.depth) (seen r)))

  -- an operand is answered at once
  pub answered_after : (x : c.Core ℕ) (value : Value) (n : ℕ) (after : World → Outcome → Outcome)
      → Keeps (after (world_in a r.depth)) → mute (eval x (world_in a r.depth) (seen r)) ≡ mute (ends (answer value) (record (seen r) { left = n }))
      → does a (record r { left = n }) (λ w st. after w (ends (answer value) st)) ≡ does a r (λ w st. after w (eval x w st))
  answered_after x value n after k e = sym (answered_goes a r (after (world_in a r.depth)) k (eval x (world_in a r.depth) (seen r)) (ends (answer value) (record (seen r) { left = n })) e)

  -- members of an object's class
  pub get_class : (at : Place) (name : ℕ) (this : Value) (class : ℕ) → class_of (setting_of a) r.store this ≡ Some class
      → does a r (λ w. get_from w at (Some class) name this) ≡ does a r (λ w. get w at name this)
  get_class at name this class e = ap (λ (q : Option ℕ). does a r (λ w. get_from w at q name this)) (sym e)

  pub set_class : (at : Place) (name : ℕ) (this value : Value) (class : ℕ) → class_of (setting_of a) r.store this ≡ Some class
      → does a r (λ w. set_from w at (Some class) name this value) ≡ does a r (λ w. set w at name this value)
  set_class at name this value class e = ap (λ (q : Option ℕ). does a r (λ w. set_from w at q name this value)) (sym e)

-- the same outcome in other words
pub comes_to : (a : Around) (new : Run) (found : Result Control Fault) (x y : Outcome) → x ≡ y → IfOk found (λ k. going a new k ≡ x) → IfOk found (λ k. going a new k ≡ y)
comes_to a new found x y e h = let P : Outcome → Type 0 = λ o. IfOk found (λ k. going a new k ≡ o) in subst P e h
