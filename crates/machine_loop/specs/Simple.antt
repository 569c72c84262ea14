-- Means of proof, which no public contract cites: statements that are done without a frame.
use Rattle.std.specs.Prelude.{◌≡◌, ℕ, ◌<◌, ◌≤◌}
use Rattle.core_program.specs.declared.form.Core.{Core}
use Rattle.core_program.specs.View as v
use Rattle.evaluation.specs.State.{answer, ends}
use Rattle.evaluation.specs.Evaluation.{eval}
use Rattle.machine_frame.specs.declared.around.Around.{Around}
use Rattle.machine_frame.specs.declared.run.Run.{Run}
use Rattle.machine_frame.specs.Outside.{world_in}
use Rattle.machine_frame.specs.Frames.{seen, below_of, mute}

-- The form is done where so many steps are left: its answer is the run's, and what waits for it is what waited before.
pub record IsDone (a : Around) (one : Core) (left : ℕ) (old new : Run) : Type 0 where
  pub does : mute (eval (v.core one) (world_in a old.depth) (record (seen old) { left = left })) ≡ mute (ends (answer new.answer) (seen new))
  pub below : below_of new ≡ below_of old
  pub frames : new.frames.items ≡ old.frames.items
  pub depth : new.depth ≡ old.depth
  pub less : new.left < left

-- Some of the form is done: what is left of it comes to the same.
pub record IsLeft (a : Around) (one more : Core) (old new : Run) : Type 0 where
  pub does : mute (eval (v.core one) (world_in a old.depth) (seen old)) ≡ mute (eval (v.core more) (world_in a old.depth) (seen new))
  pub below : below_of new ≡ below_of old
  pub frames : new.frames.items ≡ old.frames.items
  pub depth : new.depth ≡ old.depth
  pub less : new.left ≤ old.left
