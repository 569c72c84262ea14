use Rattle.std.proofs.Common.{rules}
use Rattle.dart_tree.proofs.Rows.{view_the_variables}
use Rattle.scope_table.proofs.instance.variables_stretch.Goals as goal

pub returns : goal.returns
returns c = rw (view_the_variables c.args.tree.now) (first_of (cc, search rules))
