use Rattle.std.proofs.Common.{◌∙◌, refl}
use Rattle.dart_tree.proofs.Rows.{view_for_in}
use Rattle.dart_node.proofs.make.statement.for_in.Goals as goal

pub returns : goal.returns
returns c = view_for_in c.args.word c.args.opening c.args.kind c.args.name c.args.in_word c.args.iterated c.args.closing c.in_ok-body.body ∙ rw (c.in_ok-body.ensures.ok) refl
