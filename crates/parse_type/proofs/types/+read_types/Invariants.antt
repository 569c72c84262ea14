use Rattle.std.proofs.Common.{◌+◌, ◌*◌, ◌-◌}
use Rattle.dart_tree.specs.Lists.{type_list_of}
use Rattle.parse_loop.specs.Lists.{SoFar}
use Rattle.syntax_readers.specs.Types.{type_reader, types}
use Rattle.parse_type.proofs.Listing.{types_list}
use Rattle.parse_type.proofs.types.+read_types.Given as goal

abbrev pub decreases-type_node : goal.decreases-type_node
decreases-type_node l = l.depth * 4

abbrev pub decreases-type_arguments : goal.decreases-type_arguments
decreases-type_arguments l = l.depth * 4 + 3

abbrev pub decreases-type_list : goal.decreases-type_list
decreases-type_list l = l.depth * 4 + 2

abbrev pub decreases-comma_type : goal.decreases-comma_type
decreases-comma_type l = l.depth * 4 + 1

abbrev pub invariant-type_list-loop-turn : goal.invariant-type_list-loop-turn
invariant-type_list-loop-turn l = SoFar (types_list (type_reader l.depth)) l.depth (types (type_reader l.depth) l.fn.cursor) (type_list_of l.found.items) l.highest (l._turn-end - l._turn) l.cursor
