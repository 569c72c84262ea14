-- A frame that is taken off the others, as the form for which it waited is left.
use Rattle.std.proofs.Common.{◌≡◌, ◌+◌, ◌*◌, List, [], ◌∷◌, ◌++◌, sym, ap, ◌∙◌, arith}
use Rattle.evaluation.specs.State.{Outcome, ends}
use Rattle.machine_frame.specs.declared.around.Around.{Around}
use Rattle.machine_frame.specs.declared.run.Control.TheVariants.{Leave}
use Rattle.machine_frame.specs.declared.run.Exit.{Exit}
use Rattle.machine_frame.specs.declared.run.Frame.{Frame}
use Rattle.machine_frame.specs.declared.run.Run.{Run}
use Rattle.machine_frame.specs.Outside.{world_in}
use Rattle.machine_frame.specs.Frames.{seen, below_of, below, resumed, resume, mute, going, completed, frame_weight, load, weight, work}
use Rattle.machine_frame.proofs.Resume.{resume_push}
use Rattle.machine_frame.proofs.Steps.{load_push}
use Rattle.dart_machine.specs.Leaving.{resuming}

module _ (a : Around) (r r' : Run) (exit : Exit) (stays : r' ≡ record r { frames = r'.frames }) where
  -- no frame is left
  pub none_popped : r.frames.items ≡ [] → ends (completed exit r'.answer) (seen r') ≡ going a r (Leave exit)
  none_popped none =
      ap (λ (q : Run). ends (completed exit q.answer) (seen q)) stays
      ∙ ap (λ (fs : List Frame). mute (resume a (below_of r) fs (ends (completed exit r.answer) (seen r)))) (sym none)

  pub one_popped : (frame : Frame) → r.frames.items ≡ r'.frames.items ++ frame ∷ []
      → resuming a r' frame (ends (completed exit r'.answer) (seen r')) ≡ going a r (Leave exit)
  one_popped frame popped =
      let o : Outcome = ends (completed exit r.answer) (seen r) in
      ap (λ (q : Run). mute (resume a (below (below_of q) frame) r'.frames.items (resumed (world_in a q.depth) (below_of q) frame (ends (completed exit q.answer) (seen q))))) stays
      ∙ sym (ap (λ (fs : List Frame). mute (resume a (below_of r) fs o)) popped ∙ ap mute (resume_push a (below_of r) r'.frames.items frame o))

  pub work_popped : (frame : Frame) → r.frames.items ≡ r'.frames.items ++ frame ∷ [] → frame_weight frame + work r' (Leave exit) ≡ work r (Leave exit)
  work_popped frame popped =
      ap (λ (q : Run). frame_weight frame + (16 * q.left + load r'.frames.items + weight (Leave exit))) stays
      ∙ (let e : frame_weight frame + (16 * r.left + load r'.frames.items + weight (Leave exit)) ≡ 16 * r.left + (load r'.frames.items + frame_weight frame) + weight (Leave exit) = omega arith in e)
      ∙ ap (λ n. 16 * r.left + n + weight (Leave exit)) (sym (ap load popped ∙ load_push r'.frames.items frame))
