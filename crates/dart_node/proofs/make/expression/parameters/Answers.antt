use Rattle.dart_node.proofs.Made.{made_the_parameters}
use Rattle.dart_node.proofs.make.expression.parameters.Goals as goal

pub returns : goal.returns
returns c = made_the_parameters (record { opening = c.args.opening; required = c.args.required; brackets = c.args.brackets; optional = c.args.optional; closing = c.args.closing })
