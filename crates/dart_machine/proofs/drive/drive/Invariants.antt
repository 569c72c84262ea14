use Rattle.std.proofs.Common.{◌≡◌}
use Rattle.machine_frame.specs.Frames.{going, work}
use Rattle.dart_machine.proofs.drive.drive.Given as goal

abbrev pub invariant-loop-control : goal.invariant-loop-control
invariant-loop-control l = going l.fn.a l.run l.control ≡ going l.fn.a l.fn.run l.fn.start

abbrev pub decreases-loop-control : goal.decreases-loop-control
decreases-loop-control l = work l.run l.control
