use Rattle.std.proofs.Common.{◌≤◌, length, arith}
use Rattle.lower_leaf.specs.Seen.{asked}
use Rattle.lower_class.proofs.Fields.{more_step, more_end}
use Rattle.lower_class.proofs.field.more_fields.Goals as goal

pub loop-one-preserved : goal.loop-one-preserved
loop-one-preserved g c =
    let a = g.S.Surroundings.around c.args.outside.now in
    more_step a (asked a c.args.wanted.now) c.args.final_one c.args.first c.loop-one.found.items c.add_field.new.found.items c.args.all.now.items
    c.deref-one-items.result.now c.loop-one.one-index c.one-item.result _ c.deref-one-items.ensures.value c.loop-one-test.true c.one-item.is
    c.in_ok-add_field.ensures c.loop-one.invariant

pub returns : goal.returns
returns g c =
    let a = g.S.Surroundings.around c.args.outside.now in
    let past : length c.deref-one-items.result.now ≤ c.loop-one.one-index = omega arith in
    more_end a (asked a c.args.wanted.now) c.args.final_one c.args.first c.loop-one.found.items c.args.all.now.items c.deref-one-items.result.now
    c.loop-one.one-index _ c.deref-one-items.ensures.value past c.loop-one.invariant
