use Rattle.dart_tree.specs.View as view
use Rattle.parse_type.specs.Views.{one_result_height}
use Rattle.syntax_readers.specs.Types.{result}
use Rattle.parse_class.proofs.Nodes.{by_type}
use Rattle.parse_class.proofs.part.result_type.Goals as goal

pub returns : goal.returns
returns c = by_type view.result_type one_result_height (λ type. result type) c.args.depth c.args.cursor.now c.result_type.new.cursor
    c.result_type.result c.result_type.ensures
