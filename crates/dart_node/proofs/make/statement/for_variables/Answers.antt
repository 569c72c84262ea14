use Rattle.std.proofs.Common.{◌∙◌, refl}
use Rattle.dart_tree.proofs.Rows.{view_for_variables}
use Rattle.dart_node.proofs.make.statement.for_variables.Goals as goal

pub returns : goal.returns
returns c = view_for_variables c.args.word c.args.opening c.args.variables c.args.condition c.args.semicolon c.args.updates c.args.closing c.in_ok-body.body ∙ rw (c.in_ok-body.ensures.ok) refl
