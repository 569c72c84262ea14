use Rattle.std.proofs.Common.{◌∙◌, refl}
use Rattle.dart_tree.proofs.Rows.{view_index}
use Rattle.dart_node.proofs.make.expression.index.Goals as goal

pub returns : goal.returns
returns c = view_index c.args.opening c.in_ok-value.value c.args.closing ∙ rw (c.in_ok-value.ensures.ok) refl
