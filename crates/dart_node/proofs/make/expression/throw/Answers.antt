use Rattle.std.proofs.Common.{◌∙◌, refl}
use Rattle.dart_tree.proofs.Rows.{view_throw}
use Rattle.dart_node.proofs.make.expression.throw.Goals as goal

pub returns : goal.returns
returns c = view_throw c.args.word c.in_ok-value.value ∙ rw (c.in_ok-value.ensures.ok) refl
