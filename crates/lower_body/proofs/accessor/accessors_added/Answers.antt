use Rattle.std.proofs.Common.{◌∙◌, ℕ, List, refl, ap}
use Rattle.translation.specs.ClassBodies as b
use Rattle.translation.specs.Walk as w
use Rattle.lower_leaf.specs.Seen.{seen}
use Rattle.lower_class.specs.Views.{field}
use Rattle.lower_class.specs.declared.field.Field.{Field}
use Rattle.lower_body.proofs.Walking.{step_item}
use Rattle.lower_body.proofs.Accessed.{both, all_behind, both_law, both_went}
use Rattle.lower_body.proofs.accessor.accessors_added.Goals as goal

pub loop-one-preserved : goal.loop-one-preserved
loop-one-preserved g c =
    let a = g.S.Surroundings.around c.args.outside.now in
    let n = c.args.class.0 in
    step_item (all_behind a n) (both a n) (both_law a n) c.args.all.now.items c.deref-one-items.result.now c.loop-one.one-index c.one-item.result 0 0
    (seen a c.loop-one.state) (seen a c.setter_added.new.state) _ c.deref-one-items.ensures.value c.loop-one-test.true c.one-item.is c.loop-one.invariant
    (both_went a n c.one-item.result (seen a c.loop-one.state) (seen a c.getter_added.new.state) (seen a c.setter_added.new.state) c.in_ok-getter_added.ensures c.in_ok-setter_added.ensures)
