use Rattle.std.proofs.Common.{◌∙◌, refl}
use Rattle.dart_tree.proofs.Rows.{view_function_literal}
use Rattle.dart_node.proofs.make.expression.function_literal.Goals as goal

pub returns : goal.returns
returns c = view_function_literal c.in_ok-parameters.parameters c.args.body ∙ rw (c.in_ok-parameters.ensures.ok) refl
