use Rattle.std.proofs.Common.{◌∙◌, refl}
use Rattle.dart_tree.proofs.Rows.{view_while_loop}
use Rattle.dart_node.proofs.make.statement.while_loop.Goals as goal

pub returns : goal.returns
returns c = view_while_loop c.args.word c.args.opening c.args.condition c.args.closing c.in_ok-body.body ∙ rw (c.in_ok-body.ensures.ok) refl
