use Rattle.std.proofs.Common.{◌+◌, ◌*◌, ◌↔◌, drop}
use Rattle.dart_ir.specs.Ty.{ty, tys}
use Rattle.class_size.specs.Bound.{HasLarge, rank}
use Rattle.class_size.proofs.large.Sizes.+climbing.Given as goal

abbrev pub decreases-is_large_above : goal.decreases-is_large_above
decreases-is_large_above l = 3 * rank (ty l.t.now) + 2

abbrev pub decreases-is_large_above_class : goal.decreases-is_large_above_class
decreases-is_large_above_class l = 3 * l.c + 1

abbrev pub decreases-is_any_large : goal.decreases-is_any_large
decreases-is_any_large l = 3 * l.c

abbrev pub invariant-is_any_large-loop-t : goal.invariant-is_any_large-loop-t
invariant-is_any_large-loop-t l = HasLarge l.self.classes.now (tys l.args) (drop l.t-index l.types) ↔ HasLarge l.self.classes.now (tys l.args) l.types
