use Rattle.std.proofs.Common.{rules}
use Rattle.scope_declared.proofs.Ending.{last_the_function}
use Rattle.scope_declared.proofs.last.function_last.Goals as goal

pub returns : goal.returns
returns c = rw (last_the_function c.args.tree.now) (search rules)
