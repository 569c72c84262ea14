use Rattle.std.proofs.Common.{◌∙◌, refl}
use Rattle.dart_tree.proofs.Rows.{view_given}
use Rattle.dart_node.proofs.make.expression.given.Goals as goal

pub returns : goal.returns
returns c = view_given c.args.operator c.in_ok-value.value ∙ rw (c.in_ok-value.ensures.ok) refl
