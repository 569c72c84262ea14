use Rattle.dart_node.proofs.Made.{made_the_parameter}
use Rattle.dart_node.proofs.make.expression.parameter.Goals as goal

pub returns : goal.returns
returns c = made_the_parameter (record { comma = c.args.comma; metadata = c.args.metadata; kind = c.args.kind; value = c.args.value })
