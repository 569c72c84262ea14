use Rattle.std.proofs.Common.{◌≡◌, ℕ, ◌++◌, List, drop}
use Rattle.dart_ir.specs.Ty.{Ty}
use Rattle.dart_type.specs.Search.{facing}
use Rattle.dart_type.specs.Intern.{reads, AreBelow}
use Rattle.dart_type.specs.Clauses.{ways_of, clauses_of, AreListed, AllListed}
use Rattle.dart_type.proofs.clauses.facing_of.Given as goal

abbrev pub invariant-loop-i : goal.invariant-loop-i
invariant-loop-i l = record {
  are : (us : List Ty) → clauses_of us l.clauses.items ++ facing (reads us (drop l.i l.ts)) (reads us (drop l.i l.ss)) (ways_of us l.ways) ≡ facing (reads us l.ts) (reads us l.ss) (ways_of us l.ways);
  listed : (n : ℕ) → AreBelow n l.ts → AreBelow n l.ss → AreListed n l.ways → AllListed n l.clauses.items;
}
