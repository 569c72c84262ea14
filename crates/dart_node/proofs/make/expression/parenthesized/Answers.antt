use Rattle.std.proofs.Common.{◌∙◌, refl}
use Rattle.dart_tree.proofs.Rows.{view_parenthesized}
use Rattle.dart_node.proofs.make.expression.parenthesized.Goals as goal

pub returns : goal.returns
returns c = view_parenthesized c.args.opening c.in_ok-value.value c.args.closing ∙ rw (c.in_ok-value.ensures.ok) refl
