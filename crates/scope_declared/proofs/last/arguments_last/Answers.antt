use Rattle.std.proofs.Common.{rules}
use Rattle.scope_declared.proofs.Ending.{last_the_arguments}
use Rattle.scope_declared.proofs.last.arguments_last.Goals as goal

pub returns : goal.returns
returns c = rw (last_the_arguments c.args.tree.now) (search rules)
