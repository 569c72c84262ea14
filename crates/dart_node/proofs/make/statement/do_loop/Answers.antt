use Rattle.std.proofs.Common.{◌∙◌, refl}
use Rattle.dart_tree.proofs.Rows.{view_do_loop}
use Rattle.dart_node.proofs.make.statement.do_loop.Goals as goal

pub returns : goal.returns
returns c = view_do_loop c.args.word c.in_ok-body.body c.args.while_word c.args.opening c.args.condition c.args.closing c.args.semicolon ∙ rw (c.in_ok-body.ensures.ok) refl
