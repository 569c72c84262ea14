use Rattle.std.proofs.Common.{rules}
use Rattle.dart_tree.proofs.Rows.{view_the_parameters}
use Rattle.scope_reason.proofs.main_function.requires_at_most_one.Goals as goal

pub returns : goal.returns
returns c = rw (view_the_parameters c.args.tree.now) (search rules)
