use Rattle.std.proofs.Common.{ℕ, ◌<◌, ◌≤◌, drop}
use Rattle.dart_base.specs.declared.limit.TheConstants.{TYPE_NODES}
use Rattle.dart_ir.specs.Ty.{tys}
use Rattle.class_size.specs.Bound.{AreAtMost}
use Rattle.class_size.proofs.bound.largest.Given as goal

abbrev pub invariant-loop-t : goal.invariant-loop-t
invariant-loop-t l = record {
  positive : 0 < l.most;
  seen : (n : ℕ) → l.most ≤ n → n ≤ TYPE_NODES → AreAtMost n (tys (drop l.t-index l.args)) → AreAtMost n (tys l.args);
}
