use Rattle.std.proofs.Common.{◌≡◌, map, take}
use Rattle.class_table.specs.Renumbered.{renumbered_bound, bound_ty}
use Rattle.class_table.proofs.renumber.renumber_bounds.Given as goal

abbrev pub invariant-loop-bound : goal.invariant-loop-bound
invariant-loop-bound l = map bound_ty l.v.items ≡ map (renumbered_bound l.numbers) (take l.bound-index l.bounds)
