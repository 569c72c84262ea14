-- The types in which a token goes on.
use Rattle.std.specs.Prelude.{Bool}
use Rattle.dart_tree.specs.Types.{TypeNode}
use Rattle.dart_syntax.specs.Edges.{opens_less, opens_dot, opens_nothing}
use Rattle.parse_edge.specs.declared.opens.Opens.{Opens}
use Rattle.parse_edge.specs.declared.opens.Opens.TheVariants as o

abbrev pub opened_by : Opens → TypeNode → Bool
opened_by o.Less = opens_less
opened_by o.Dot = opens_dot
opened_by o.Nothing = opens_nothing
