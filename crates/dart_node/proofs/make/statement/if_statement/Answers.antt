use Rattle.std.proofs.Common.{◌∙◌, refl}
use Rattle.dart_tree.proofs.Rows.{view_if_stmt}
use Rattle.dart_node.proofs.make.statement.if_statement.Goals as goal

pub returns : goal.returns
returns c = view_if_stmt c.args.word c.args.opening c.args.condition c.args.closing c.in_ok-first.first ∙ rw (c.in_ok-first.ensures.ok) refl
