use Rattle.std.proofs.Common.{subst as transport}
use Rattle.class_size.specs.Bound.{AreTypeBounds}
use Rattle.class_size.proofs.Bounded.{supertypes_bound}
use Rattle.class_size.proofs.bound.class_bound.Goals as goal

pub returns : goal.returns
returns c = λ k h.
    supertypes_bound k c.args.info.now.superclass c.args.info.now.interfaces.items c.superclass_bound.result c.types_bound.result c.max.result c.max.ensures (c.superclass_bound.ensures k h)
    (transport (AreTypeBounds k c.types_bound.result) c.deref.ensures.value (c.types_bound.ensures k h))
