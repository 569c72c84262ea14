use Rattle.std.proofs.Common.{◌≡◌, ℕ, ◌++◌, List, drop}
use Rattle.dart_ir.specs.Ty.{Ty}
use Rattle.dart_type.specs.Intern.{reads, AreBelow}
use Rattle.dart_type.specs.Clauses.{clauses_of, AllListed, positional_pairs}
use Rattle.dart_type.proofs.clauses.add_positional.Given as goal

abbrev pub invariant-loop-i : goal.invariant-loop-i
invariant-loop-i l = record {
  are : (us : List Ty) → clauses_of us l.clauses.items ++ positional_pairs (reads us (drop l.i l.ts)) (reads us (drop l.i l.ss)) ≡ clauses_of us l.initial.clauses.items ++ positional_pairs (reads us l.ts) (reads us l.ss);
  listed : (n : ℕ) → AreBelow n l.ts → AreBelow n l.ss → AllListed n l.initial.clauses.items → AllListed n l.clauses.items;
}
