use Rattle.std.proofs.Common.{◌∙◌, refl}
use Rattle.dart_tree.proofs.Rows.{view_if_else}
use Rattle.dart_node.proofs.make.statement.if_else.Goals as goal

pub returns : goal.returns
returns c = view_if_else c.args.word c.args.opening c.args.condition c.args.closing c.in_ok-first.first c.args.else_word c.in_ok-second.second ∙ rw (c.in_ok-first.ensures.ok, c.in_ok-second.ensures.ok) refl
