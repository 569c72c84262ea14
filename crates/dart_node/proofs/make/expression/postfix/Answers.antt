use Rattle.std.proofs.Common.{◌∙◌, refl}
use Rattle.dart_tree.proofs.Rows.{view_postfix}
use Rattle.dart_node.proofs.make.expression.postfix.Goals as goal

pub returns : goal.returns
returns c = view_postfix c.in_ok-primary.primary c.args.selectors c.args.operator ∙ rw (c.in_ok-primary.ensures.ok) refl
