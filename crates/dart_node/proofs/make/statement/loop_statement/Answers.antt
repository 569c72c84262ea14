use Rattle.std.proofs.Common.{◌∙◌, refl}
use Rattle.dart_tree.proofs.Rows.{view_loop}
use Rattle.dart_node.proofs.make.statement.loop_statement.Goals as goal

pub returns : goal.returns
returns c = view_loop c.in_ok-again.again ∙ rw (c.in_ok-again.ensures.ok) refl
