use Rattle.std.proofs.Common.{◌∙◌, refl}
use Rattle.dart_tree.proofs.Rows.{view_for_loop}
use Rattle.dart_node.proofs.make.statement.for_loop.Goals as goal

pub returns : goal.returns
returns c = view_for_loop c.args.word c.args.opening c.args.start c.args.first_semicolon c.args.condition c.args.second_semicolon c.args.updates c.args.closing c.in_ok-body.body ∙ rw (c.in_ok-body.ensures.ok) refl
