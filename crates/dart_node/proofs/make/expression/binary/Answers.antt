use Rattle.std.proofs.Common.{◌∙◌, refl}
use Rattle.dart_tree.proofs.Rows.{view_binary}
use Rattle.dart_node.proofs.make.expression.binary.Goals as goal

pub returns : goal.returns
returns c = view_binary c.in_ok-first.first c.args.more ∙ rw (c.in_ok-first.ensures.ok) refl
