use Rattle.std.proofs.Common.{append_assoc, rules}
use Rattle.dart_tree.proofs.Rows.{view_the_function}
use Rattle.scope_walk.proofs.leaf.Walk.function.Goals as goal

pub returns : goal.returns
returns c = rw (view_the_function c.args.tree.now) (search (rules, append_assoc))
