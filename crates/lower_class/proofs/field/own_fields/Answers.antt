use Rattle.std.proofs.Common.{◌≤◌, length, arith}
use Rattle.lower_leaf.specs.Seen.{seen}
use Rattle.lower_class.proofs.Fields.{members_step, members_end}
use Rattle.lower_class.proofs.field.own_fields.Goals as goal

pub loop-one-preserved : goal.loop-one-preserved
loop-one-preserved g c =
    let a = g.S.Surroundings.around c.args.outside.now in
    members_step a (seen a c.args.state.now) c.args.first c.loop-one.found.items c.member_fields.new.found.items c.args.members.now.items
    c.deref-one-items.result.now c.loop-one.one-index c.one-item.result _ c.deref-one-items.ensures.value c.loop-one-test.true c.one-item.is
    c.in_ok-member_fields.ensures c.loop-one.invariant

pub returns : goal.returns
returns g c =
    let a = g.S.Surroundings.around c.args.outside.now in
    let past : length c.deref-one-items.result.now ≤ c.loop-one.one-index = omega arith in
    members_end a (seen a c.args.state.now) c.args.first c.loop-one.found.items c.args.members.now.items c.deref-one-items.result.now
    c.loop-one.one-index _ c.deref-one-items.ensures.value past c.loop-one.invariant
