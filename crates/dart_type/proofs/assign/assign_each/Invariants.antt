use Rattle.std.proofs.Common.{take}
use Rattle.dart_type.specs.Intern.{types}
use Rattle.dart_type.specs.Clauses.{ways_of, assign_ways, GivesWays}
use Rattle.dart_type.proofs.assign.assign_each.Given as goal

abbrev pub invariant-loop-pair : goal.invariant-loop-pair
invariant-loop-pair l = GivesWays l.initial.nodes.items l.nodes.items l.ways.items (assign_ways (ways_of (types l.initial.nodes.items) (take l.pair-index l.pairs)))
