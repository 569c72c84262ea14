use Rattle.dart_tree.proofs.Rows.{view_try_stmt}
use Rattle.dart_node.proofs.make.statement.try_statement.Goals as goal

pub returns : goal.returns
returns c = view_try_stmt c.args.word c.args.block c.args.parts
