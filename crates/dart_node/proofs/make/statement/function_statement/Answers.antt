use Rattle.std.proofs.Common.{◌∙◌, refl}
use Rattle.dart_tree.proofs.Rows.{view_function_stmt}
use Rattle.dart_node.proofs.make.statement.function_statement.Goals as goal

pub returns : goal.returns
returns c = view_function_stmt c.in_ok-function.function ∙ rw (c.in_ok-function.ensures.ok) refl
