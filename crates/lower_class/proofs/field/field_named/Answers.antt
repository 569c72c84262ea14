use Rattle.std.proofs.Common.{sym, ◌∙◌}
use Rattle.lower_class.proofs.Fields.{named_here}
use Rattle.lower_class.proofs.field.field_named.Goals as goal

pub returns-then-eq : goal.returns-then-eq
returns-then-eq g c =
    let a = g.S.Surroundings.around c.args.outside.now in
    named_here a c.args.all.now.items c.deref-one-items.result.now c.loop-one.one-index c.one-item.result c.args.name.now _
    c.deref-one-items.ensures.value c.loop-one-test.true c.one-item.is (rw c.as_slice.ensures at (sym c.eq.ensures ∙ c.if-eq.true)) c.loop-one.invariant
