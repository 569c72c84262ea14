use Rattle.std.proofs.Common.{◌∙◌}
use Rattle.native_object.proofs.Methods.{next}
use Rattle.native_object.proofs.identity.identical.Goals as goal

pub receivers-preserved : goal.receivers-preserved
receivers-preserved c =
    let first = c.in-Some.first in
    let second = c.in-Some-method_at.second in
    next c.receivers.left c.args.literals.now c.args.store.now c.receivers.a c.receivers.b (first.receiver, first.member.0) (second.receiver, second.member.0) c.in-Some.ensures
    c.in-Some-method_at.ensures c.if-first-second.false c.if-left-eq0.false
    ∙ c.receivers.invariant
