use Rattle.std.proofs.Common.{◌∙◌, refl}
use Rattle.dart_tree.proofs.Rows.{view_is_type}
use Rattle.dart_node.proofs.make.expression.is_type.Goals as goal

pub returns : goal.returns
returns c = view_is_type c.in_ok-operand.operand c.args.word c.args.bang c.in_ok-type_node.type_node ∙ rw (c.in_ok-operand.ensures.ok, c.in_ok-type_node.ensures.ok) refl
