use Rattle.dart_tree.proofs.Rows.{view_block_body}
use Rattle.dart_node.proofs.make.statement.block_body.Goals as goal

pub returns : goal.returns
returns c = view_block_body c.args.block
