use Rattle.dart_node.proofs.Made.{made_the_arguments}
use Rattle.dart_node.proofs.make.expression.arguments.Goals as goal

pub returns : goal.returns
returns c = made_the_arguments (record { opening = c.args.opening; items = c.args.items; closing = c.args.closing })
