use Rattle.std.proofs.Common.{ap}
use Rattle.scope_reason.specs.Reason.{up_to}
use Rattle.scope_reason.proofs.reason.shown.Goals as goal

pub returns-in-None : goal.returns-in-None
returns-in-None c = ap (up_to c.args.text.now) c.in-None.ensures.position

pub returns-in-Some : goal.returns-in-Some
returns-in-Some c = ap (up_to c.args.text.now) c.in-Some.ensures.position
