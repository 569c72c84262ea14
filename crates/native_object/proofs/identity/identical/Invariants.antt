-- the receivers at hand are the same where the values are
use Rattle.std.proofs.Common.{◌≡◌, suc}
use Rattle.native_object.specs.Identity.{same_within, identical}
use Rattle.native_object.proofs.identity.identical.Given as goal

abbrev pub invariant-receivers : goal.invariant-receivers
invariant-receivers l = same_within (suc l.left) l.literals l.store l.a l.b ≡ identical l.literals l.store l.fn.x l.fn.y

abbrev pub decreases-receivers : goal.decreases-receivers
decreases-receivers l = l.left
