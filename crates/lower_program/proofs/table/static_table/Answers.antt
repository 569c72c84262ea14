use Rattle.std.proofs.Common.{◌≡◌, length, refl, arith}
use Rattle.lower_leaf.specs.Seen.{numbered_static}
use Rattle.translation.specs.Program as p
use Rattle.lower_program.specs.Views.{static_slot}
use Rattle.lower_program.proofs.Tabled.{nothing_left, over_begun, over_step, over_end}
use Rattle.lower_program.proofs.table.static_table.Goals as goal

pub loop-one-init : goal.loop-one-init
loop-one-init c = λ a. over_begun (numbered_static a) (static_slot a) p.no_static c.args.statics.items c.args.count c.in_ok-slots.slots.items c.in_ok-slots.ensures refl

pub loop-one-preserved : goal.loop-one-preserved
loop-one-preserved c = λ a.
    over_step (numbered_static a) (static_slot a) c.loop-one.left.items c.pop.new.self.items c.in-Some.one c.loop-one.slots.items c.fill_slot.new.slots.items c.in-Some.one.made _
    c.in-Some.ensures.items c.fill_slot.ensures refl (c.loop-one.invariant a)

pub returns : goal.returns
returns c = λ a.
    let empty : length c.loop-one.left.items ≡ 0 = omega (arith, c.in_default.ensures.cases.0) in
    over_end (numbered_static a) (static_slot a) c.loop-one.left.items c.loop-one.slots.items _ (nothing_left c.loop-one.left.items empty) (c.loop-one.invariant a)
