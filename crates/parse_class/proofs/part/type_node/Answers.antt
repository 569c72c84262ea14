use Rattle.dart_tree.specs.Depth as height
use Rattle.dart_tree.specs.View as view
use Rattle.parse_class.proofs.Nodes.{by_type}
use Rattle.parse_class.proofs.part.type_node.Goals as goal

pub returns : goal.returns
returns c = by_type view.type_node height.type_height (λ type. type) c.args.depth c.args.cursor.now c.type_node.new.cursor
    c.type_node.result c.type_node.ensures
