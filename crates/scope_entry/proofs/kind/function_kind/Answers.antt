use Rattle.std.proofs.Common.{rules}
use Rattle.dart_tree.proofs.Rows.{view_the_function}
use Rattle.scope_entry.proofs.kind.function_kind.Goals as goal

pub returns : goal.returns
returns c = rw (view_the_function c.args.tree.now, ← c.required.ensures) (search rules)
