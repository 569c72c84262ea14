use Rattle.std.proofs.Common.{◌≡◌, ℕ, ◌++◌, List, drop}
use Rattle.dart_ir.specs.Ty.{Ty}
use Rattle.dart_type.specs.Intern.{named_reads, AreNamedBelow}
use Rattle.dart_type.specs.Clauses.{clauses_of, AllListed, named_pairs}
use Rattle.dart_type.proofs.clauses.add_named.Given as goal

abbrev pub invariant-loop-m : goal.invariant-loop-m
invariant-loop-m l = record {
  are : (us : List Ty) → clauses_of us l.clauses.items ++ named_pairs (named_reads us l.ns) (named_reads us (drop l.m-index l.ms)) ≡ clauses_of us l.initial.clauses.items ++ named_pairs (named_reads us l.ns) (named_reads us l.ms);
  listed : (n : ℕ) → AreNamedBelow n l.ns → AreNamedBelow n l.ms → AllListed n l.initial.clauses.items → AllListed n l.clauses.items;
}
