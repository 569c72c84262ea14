use Rattle.std.proofs.Common.{rules}
use Rattle.dart_tree.proofs.Rows.{view_the_parameters}
use Rattle.scope_entry.proofs.kind.required.Goals as goal

pub returns : goal.returns
returns c = rw (view_the_parameters c.args.tree.now, ← c.parameter_count.ensures) (search rules)
