use Rattle.dart_tree.specs.Depth as height
use Rattle.dart_tree.specs.UnitView as view
use Rattle.syntax_readers.specs.Declarations as spec
use Rattle.parse_class.proofs.Nodes.{by_type}
use Rattle.parse_class.proofs.part.mixins.Goals as goal

pub returns : goal.returns
returns c = by_type view.type_clause height.clause_height (λ type. spec.mixins type) c.args.depth c.args.cursor.now c.mixins.new.cursor
    c.mixins.result c.mixins.ensures
