use Rattle.std.proofs.Common.{sym, ap, ◌∙◌}
use Rattle.machine_frame.specs.Frames.{going}
use Rattle.dart_machine.proofs.Popped.{one_popped}
use Rattle.dart_machine.proofs.drive.drive.Goals as goal

pub loop-control-preserved : goal.loop-control-preserved
loop-control-preserved c =
    let left = c.in_ok-control-in-Some in
    let some = c.in-Some in
    left.ensures.meaning
    ∙ one_popped c.args.a c.loop-control.run c.pop_frame.new.run c.in-Leave.exit some.ensures.stays some.frame some.ensures.popped
    ∙ ap (going c.args.a c.loop-control.run) (sym c.in-Leave.is) ∙ c.loop-control.invariant
