use Rattle.std.proofs.Common.{◌∙◌, refl}
use Rattle.dart_tree.proofs.Rows.{view_function_parameter}
use Rattle.dart_node.proofs.make.expression.function_parameter.Goals as goal

pub returns : goal.returns
returns c = view_function_parameter c.args.result_type c.args.this_dot c.args.name c.in_ok-parameters.parameters ∙ rw (c.in_ok-parameters.ensures.ok) refl
