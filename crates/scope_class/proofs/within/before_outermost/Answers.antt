use Rattle.scope_class.specs.Members.{stands_outermost}
use Rattle.scope_class.proofs.Parts.{before-none, before-some}
use Rattle.scope_class.proofs.within.before_outermost.Goals as goal

pub returns-in-None : goal.returns-in-None
returns-in-None c = before-none stands_outermost c.args.behind.now c.in-None.ensures.position

pub returns-in-Some : goal.returns-in-Some
returns-in-Some c = before-some stands_outermost c.args.behind.now c.in-Some.end c.in-Some.ensures.position
