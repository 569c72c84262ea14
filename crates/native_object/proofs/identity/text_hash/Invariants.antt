-- the units that are left make the number whole
use Rattle.std.proofs.Common.{◌≡◌, ◌+◌, ◌*◌, ◌%◌, ◌<◌, ◌^◌, drop}
use Rattle.std.specs.Prelude.{fold}
use Rattle.native_object.specs.Identity.{text_hash}
use Rattle.native_object.proofs.identity.text_hash.Given as goal

abbrev pub invariant-loop-unit : goal.invariant-loop-unit
invariant-loop-unit l = (l.hash < 2 ^ 30) × (fold (λ n u. (31 * n + u) % 2 ^ 30) l.hash (drop l.unit-index l.units) ≡ text_hash l.units)
