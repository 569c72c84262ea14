use Rattle.dart_tree.proofs.Rows.{view_block_stmt}
use Rattle.dart_node.proofs.make.statement.block_statement.Goals as goal

pub returns : goal.returns
returns c = view_block_stmt c.args.block
