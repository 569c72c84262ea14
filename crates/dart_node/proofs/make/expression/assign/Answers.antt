use Rattle.std.proofs.Common.{◌∙◌, refl}
use Rattle.dart_tree.proofs.Rows.{view_assign}
use Rattle.dart_node.proofs.make.expression.assign.Goals as goal

pub returns : goal.returns
returns c = view_assign c.args.target c.args.operator c.in_ok-value.value ∙ rw (c.in_ok-value.ensures.ok) refl
