use Rattle.std.proofs.Common.{sym}
use Rattle.evaluation.specs.State.{now}
use Rattle.evaluation.specs.Values.{arguments_here}
use Rattle.machine_frame.specs.Frames.{seen}
use Rattle.machine_frame.specs.Outside.{setting_of}
use Rattle.machine_value.proofs.checks.passes_site.Goals as goal

pub returns-then-surely_passes : goal.returns-then-surely_passes
returns-then-surely_passes c =
    sym (c.surely_passes.ensures c.if-surely_passes.true (arguments_here (setting_of c.args.a) (now (seen c.args.run.now))))
