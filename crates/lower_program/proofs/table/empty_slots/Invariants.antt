use Rattle.std.proofs.Common.{◌≡◌, replicate, None}
use Rattle.lower_program.proofs.table.empty_slots.Given as goal

abbrev pub invariant-loop-one : goal.invariant-loop-one
invariant-loop-one g l = l.made.items ≡ replicate l._one None
