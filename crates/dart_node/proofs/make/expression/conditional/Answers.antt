use Rattle.std.proofs.Common.{◌∙◌, refl}
use Rattle.dart_tree.proofs.Rows.{view_conditional}
use Rattle.dart_node.proofs.make.expression.conditional.Goals as goal

pub returns : goal.returns
returns c = view_conditional c.in_ok-condition.condition c.args.question c.in_ok-first.first c.args.colon c.in_ok-second.second ∙ rw (c.in_ok-condition.ensures.ok, c.in_ok-first.ensures.ok, c.in_ok-second.ensures.ok) refl
