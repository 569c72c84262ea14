use Rattle.dart_tree.proofs.Rows.{view_plain}
use Rattle.dart_node.proofs.make.expression.plain.Goals as goal

pub returns : goal.returns
returns c = view_plain c.args.operand c.args.cascades
