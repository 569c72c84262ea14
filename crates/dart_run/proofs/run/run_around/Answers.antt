use Rattle.std.specs.Prelude.{option_map}
use Rattle.machine_frame.specs.Outside.{failing}
use Rattle.machine_turn.specs.Turn.{budget, shown}
use Rattle.dart_run.proofs.Runs.{runs}
use Rattle.dart_run.proofs.run.run_around.Goals as goal

pub returns-in-Ok : goal.returns-in-Ok
returns-in-Ok c =
    runs c.args.a c.args.program.now (failing c.args.a.setup.now.annotated) (budget c.args.limits) (option_map shown c.in-Ok.turned) c.requires.bare c.requires.valid
    c.requires.first c.in-Ok.ensures
