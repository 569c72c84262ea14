use Rattle.std.proofs.Common.{rules}
use Rattle.scope_declared.proofs.Ending.{last_the_variables}
use Rattle.scope_declared.proofs.last.variables_last.Goals as goal

pub returns : goal.returns
returns c = rw (last_the_variables c.args.tree.now) (search rules)
