use Rattle.dart_tree.proofs.Rows.{view_text}
use Rattle.dart_node.proofs.make.expression.text.Goals as goal

pub returns : goal.returns
returns c = view_text c.args.pieces
