use Rattle.std.proofs.Common.{append_assoc, rules}
use Rattle.dart_tree.proofs.Rows.{view_the_variables}
use Rattle.scope_entry.proofs.kind.add_variables.Goals as goal

pub returns : goal.returns
returns c = rw (view_the_variables c.args.tree.now) (search (rules, append_assoc))
