use Rattle.dart_tree.proofs.Rows.{view_switch_stmt}
use Rattle.dart_node.proofs.make.statement.switch_statement.Goals as goal

pub returns : goal.returns
returns c = view_switch_stmt c.args.word c.args.opening c.args.value c.args.closing c.args.opening_brace c.args.parts c.args.closing_brace
