use Rattle.std.proofs.Common.{append_assoc, rules}
use Rattle.dart_tree.proofs.Rows.{view_the_variables}
use Rattle.scope_walk.proofs.leaf.Walk.fields.Goals as goal

pub returns : goal.returns
returns c = rw (view_the_variables c.args.tree.now, ← c.field_kind-kind.ensures) (search (rules, append_assoc))
