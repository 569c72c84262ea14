use Rattle.dart_node.proofs.Made.{made_the_variables}
use Rattle.dart_node.proofs.make.statement.variables.Goals as goal

pub returns : goal.returns
returns c = made_the_variables (record { kind = c.args.kind; name = c.args.name; value = c.args.value; more = c.args.more; semicolon = c.args.semicolon })
