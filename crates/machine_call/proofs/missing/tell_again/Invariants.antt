use Rattle.std.proofs.Common.{◌≡◌}
use Rattle.machine_frame.specs.Frames.{does, room}
use Rattle.machine_call.specs.Missing.{missing_alone, units_left}
use Rattle.machine_call.proofs.missing.tell_again.Given as goal

abbrev pub invariant-loop-told : goal.invariant-loop-told
invariant-loop-told l =
    (does l.fn.a l.run (missing_alone l.fn.a l.fn.at l.fn.class l.fn.this l.one) ≡ does l.fn.a l.fn.run (missing_alone l.fn.a l.fn.at l.fn.class l.fn.this l.fn.first))
    × (room l.run ≡ room l.fn.run)

abbrev pub decreases-loop-told : goal.decreases-loop-told
decreases-loop-told l = units_left l.run
