use Rattle.std.proofs.Common.{◌≤◌, List, map, length, refl, arith}
use Rattle.dart_tree.specs.declared.declaration.Member.{Member}
use Rattle.dart_tree.specs.UnitView as unit_view
use Rattle.lower_leaf.specs.Seen.{seen}
use Rattle.class_source.specs.Members as m
use Rattle.class_source.specs.View as shown
use Rattle.class_reader.specs.Seen.{members_in}
use Rattle.class_reader.proofs.Items.{step, finish}
use Rattle.class_reader.proofs.member.instance_members.Goals as goal

pub loop-one-preserved : goal.loop-one-preserved
loop-one-preserved g c =
    let a = g.S.Surroundings.around c.args.outside.now in
    let number = g.P.Positions.numbers c.args.positions.now in
    let st = seen a c.args.state.now in
    step (shown.member a.texts) (λ (l : List Member). members_in number st (map unit_view.member l))
    (λ (x : Member). m.instance_members number st (unit_view.member x)) (λ x xs. refl)
    c.args.all.now c.args.all.now c.loop-one.one-index c.one-item.result c.loop-one.found.items c.add_member.new.found.items _
    refl c.loop-one-test.true c.one-item.is c.in_ok-add_member.ensures c.loop-one.invariant

pub returns : goal.returns
returns g c =
    let a = g.S.Surroundings.around c.args.outside.now in
    let number = g.P.Positions.numbers c.args.positions.now in
    let past : length c.args.all.now ≤ c.loop-one.one-index = omega arith in
    finish (shown.member a.texts) (λ (l : List Member). members_in number (seen a c.args.state.now) (map unit_view.member l)) refl
    c.args.all.now c.args.all.now c.loop-one.one-index c.loop-one.found.items _ refl past c.loop-one.invariant
