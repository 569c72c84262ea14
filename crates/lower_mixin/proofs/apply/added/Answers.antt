use Rattle.std.proofs.Common.{◌≡◌, ℕ, List, length, map, subst, arith}
use Rattle.translation.specs.Applications as apps
use Rattle.translation.specs.Walk as w
use Rattle.lower_leaf.specs.Seen.{seen}
use Rattle.lower_body.specs.Views.{all_generated, class_made}
use Rattle.lower_mixin.specs.Views.{built_of, class_info}
use Rattle.lower_mixin.proofs.Built.{added_step}
use Rattle.lower_mixin.proofs.apply.added.Goals as goal

pub loop-one-preserved : goal.loop-one-preserved
loop-one-preserved g c =
    let a = g.S.Surroundings.around c.args.outside.now in
    let made = map (class_made a) c.args.made.now.items in
    let built = c.loop-one.built.items in
    let same : c.in-Ok.number ≡ length c.loop-one.built.items = omega (arith, c.in-Ok.ensures, c.len.ensures) in
    added_step a c.args.classes.now.items c.deref-one-items.result.now c.loop-one.one-index c.one-item.result made built c.push.new.self.items c.in_ok-all.all
    (seen a c.loop-one.state) (seen a c.added_to.new.state) _ c.deref-one-items.ensures.value c.loop-one-test.true c.one-item.is c.in_ok-push.ensures.items
    (let P : ℕ → Type 0 = λ n. apps.added_to (a.tables.mixin n) n (class_info a c.one-item.result) made (built_of a built) (seen a c.loop-one.state)
    ≡ w.went (all_generated a c.in_ok-all.all) (seen a c.added_to.new.state) in subst P same c.in_ok-all.ensures) c.loop-one.invariant
