use Rattle.std.proofs.Common.{◌≤◌, length, refl, arith}
use Rattle.dart_tree.specs.declared.statement.Variable.{Variable}
use Rattle.translation.specs.Types as y
use Rattle.lower_leaf.specs.Seen.{seen, asked}
use Rattle.class_source.specs.Members as m
use Rattle.class_source.specs.View as shown
use Rattle.class_reader.specs.Seen.{more_members}
use Rattle.class_reader.proofs.Items.{step, finish}
use Rattle.class_reader.proofs.field.add_more.Goals as goal

pub loop-one-preserved : goal.loop-one-preserved
loop-one-preserved g c =
    let a = g.S.Surroundings.around c.args.outside.now in
    let number = g.P.Positions.numbers c.args.positions.now in
    let st = seen a c.args.state.now in
    let wanted = asked a c.args.wanted.now in
    step (shown.member a.texts) (more_members number st c.args.final_one wanted)
    (λ (x : Variable). m.field_members number st c.args.final_one wanted (y.word_of x.name)) (λ x xs. refl)
    c.args.all.now.items c.deref-one-items.result.now c.loop-one.one-index c.one-item.result c.loop-one.found.items c.add_field.new.found.items _
    c.deref-one-items.ensures.value c.loop-one-test.true c.one-item.is c.in_ok-add_field.ensures c.loop-one.invariant

pub returns : goal.returns
returns g c =
    let a = g.S.Surroundings.around c.args.outside.now in
    let number = g.P.Positions.numbers c.args.positions.now in
    let past : length c.deref-one-items.result.now ≤ c.loop-one.one-index = omega arith in
    finish (shown.member a.texts) (more_members number (seen a c.args.state.now) c.args.final_one (asked a c.args.wanted.now)) refl
    c.args.all.now.items c.deref-one-items.result.now c.loop-one.one-index c.loop-one.found.items _ c.deref-one-items.ensures.value past c.loop-one.invariant
