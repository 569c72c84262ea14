use Rattle.std.proofs.Common.{take}
use Rattle.dart_type.specs.Intern.{types}
use Rattle.dart_type.specs.Clauses.{clauses_of, assign_clauses, GivesClauses}
use Rattle.dart_type.proofs.assign.assign_all.Given as goal

abbrev pub invariant-loop-pairs : goal.invariant-loop-pairs
invariant-loop-pairs l = GivesClauses l.initial.nodes.items l.nodes.items l.made.items (assign_clauses (clauses_of (types l.initial.nodes.items) (take l.pairs-index l.clauses)))
