use Rattle.dart_node.proofs.Made.{made_the_annotation}
use Rattle.dart_node.proofs.make.expression.annotation.Goals as goal

pub returns : goal.returns
returns c = made_the_annotation (record { at = c.args.at; name = c.args.name; more = c.args.more; call = c.args.call; items = c.args.items })
