use Rattle.dart_node.proofs.Made.{made_the_function}
use Rattle.dart_node.proofs.make.statement.function.Goals as goal

pub returns : goal.returns
returns c = made_the_function (record { external = c.args.external; result_type = c.args.result_type; name = c.args.name; parameters = c.args.parameters; body = c.args.body })
