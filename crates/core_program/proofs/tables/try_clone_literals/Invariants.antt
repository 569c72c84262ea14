use Rattle.std.proofs.Common.{◌≡◌, take}
use Rattle.core_program.proofs.tables.try_clone_literals.Given as goal

abbrev pub invariant-loop-one : goal.invariant-loop-one
invariant-loop-one l = l.copies.items ≡ take l.one-index l.literals
