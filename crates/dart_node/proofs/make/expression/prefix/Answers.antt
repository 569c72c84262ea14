use Rattle.std.proofs.Common.{◌∙◌, refl}
use Rattle.dart_tree.proofs.Rows.{view_prefix}
use Rattle.dart_node.proofs.make.expression.prefix.Goals as goal

pub returns : goal.returns
returns c = view_prefix c.args.operator c.in_ok-operand.operand ∙ rw (c.in_ok-operand.ensures.ok) refl
