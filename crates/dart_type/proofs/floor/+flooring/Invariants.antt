use Rattle.std.proofs.Common.{◌+◌, ◌*◌, map, take}
use Rattle.dart_type.specs.Relation.{floor}
use Rattle.dart_type.specs.Intern.{types, read, GivesAll, GivesNamed}
use Rattle.dart_type.proofs.floor.+flooring.Given as goal

abbrev pub decreases-floor_of : goal.decreases-floor_of
decreases-floor_of l = 3 * l.t + 2

abbrev pub decreases-floor_function : goal.decreases-floor_function
decreases-floor_function l = 3 * l.end + 1

abbrev pub decreases-floor_all : goal.decreases-floor_all
decreases-floor_all l = 3 * l.end

abbrev pub decreases-floor_named : goal.decreases-floor_named
decreases-floor_named l = 3 * l.end

abbrev pub invariant-floor_all-loop-i : goal.invariant-floor_all-loop-i
invariant-floor_all-loop-i l = GivesAll l.initial.nodes.items l.nodes.items l.low.items (map (λ i. floor (read (types l.initial.nodes.items) i)) (take l.i-index l.is))

abbrev pub invariant-floor_named-loop-n : goal.invariant-floor_named-loop-n
invariant-floor_named-loop-n l = GivesNamed l.initial.nodes.items l.nodes.items l.low.items (map (λ n. (n.name, floor (read (types l.initial.nodes.items) n.of))) (take l.n-index l.ns))
