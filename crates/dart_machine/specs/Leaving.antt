-- How a run goes on where the form is left for which a frame waited.
use Rattle.evaluation.specs.State.{Outcome}
use Rattle.machine_frame.specs.declared.around.Around.{Around}
use Rattle.machine_frame.specs.declared.run.Frame.{Frame}
use Rattle.machine_frame.specs.declared.run.Run.{Run}
use Rattle.machine_frame.specs.Outside.{world_in}
use Rattle.machine_frame.specs.Frames.{below_of, below, resumed, resume, mute}

-- how the run ends where the frame, which is no longer among the others, gets this outcome
abbrev pub resuming : Around → Run → Frame → Outcome → Outcome
resuming a r frame o = mute (resume a (below (below_of r) frame) r.frames.items (resumed (world_in a r.depth) (below_of r) frame o))
