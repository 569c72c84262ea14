use Rattle.std.proofs.Common.{◌≤◌, length, refl, arith}
use Rattle.lower_leaf.specs.Seen.{seen}
use Rattle.lower_body.proofs.Walking.{step_some, end_list}
use Rattle.lower_program.specs.Views.{all_made, option_made}
use Rattle.lower_program.proofs.Declared.{declarations_of, declaration_of}
use Rattle.lower_program.proofs.declaration.declarations.Goals as goal

pub loop-one-preserved : goal.loop-one-preserved
loop-one-preserved g c =
    let a = g.S.Surroundings.around c.args.outside.now in
    step_some declarations_of declaration_of (λ x xs st. refl) c.args.all.now.items c.deref-one-items.result.now c.loop-one.one-index c.one-item.result
    (all_made a c.loop-one.found) (option_made a c.in_ok-made.made) (all_made a c.add_class.new.found) (seen a c.loop-one.state) (seen a c.declaration.new.state) _
    c.deref-one-items.ensures.value c.loop-one-test.true c.one-item.is c.loop-one.invariant c.in_ok-made.ensures c.in_ok-add_class.ensures

pub returns : goal.returns
returns g c =
    let a = g.S.Surroundings.around c.args.outside.now in
    let past : length c.deref-one-items.result.now ≤ c.loop-one.one-index = omega arith in
    end_list declarations_of (λ st. refl) c.args.all.now.items c.deref-one-items.result.now c.loop-one.one-index (all_made a c.loop-one.found) (seen a c.loop-one.state) _
    c.deref-one-items.ensures.value past c.loop-one.invariant
