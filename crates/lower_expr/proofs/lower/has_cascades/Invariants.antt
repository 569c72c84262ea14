use Rattle.std.proofs.Common.{◌≡◌, drop}
use Rattle.dart_tree.specs.Lists.{cascades_of}
use Rattle.translation.specs.Expressions as e
use Rattle.lower_expr.proofs.lower.has_cascades.Given as goal

abbrev pub invariant-loop-one : goal.invariant-loop-one
invariant-loop-one l = e.has_cascades (cascades_of (drop l._one-index l.all.items)) ≡ e.has_cascades (cascades_of l.all.items)
