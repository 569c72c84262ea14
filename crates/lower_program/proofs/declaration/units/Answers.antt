use Rattle.std.proofs.Common.{◌∙◌, ◌≤◌, length, map, refl, ap, arith}
use Rattle.std.proofs.lemmas.List.{map-append}
use Rattle.lower_leaf.specs.Seen.{seen}
use Rattle.lower_body.specs.Views.{class_made}
use Rattle.lower_body.proofs.Walking.{step_some, end_list}
use Rattle.lower_program.specs.Views.{all_made}
use Rattle.lower_program.proofs.Declared.{units_of, unit_of}
use Rattle.lower_program.proofs.declaration.units.Goals as goal

pub loop-one-preserved : goal.loop-one-preserved
loop-one-preserved g c =
    let a = g.S.Surroundings.around c.args.outside.now in
    step_some (units_of a) (unit_of a) (λ x xs st. refl) c.args.all.now.items c.deref-one-items.result.now c.loop-one.one-index c.one-item.result
    (all_made a c.loop-one.found) (all_made a c.in_ok-made.made) (all_made a c.append.new.self) (seen a c.loop-one.state) (seen a c.declarations.new.state) _
    c.deref-one-items.ensures.value c.loop-one-test.true c.one-item.is c.loop-one.invariant c.in_ok-made.ensures
    (ap (map (class_made a)) c.in_ok-append.ensures.items ∙ map-append (class_made a) c.loop-one.found.items c.in_ok-made.made.items)

pub returns : goal.returns
returns g c =
    let a = g.S.Surroundings.around c.args.outside.now in
    let past : length c.deref-one-items.result.now ≤ c.loop-one.one-index = omega arith in
    end_list (units_of a) (λ st. refl) c.args.all.now.items c.deref-one-items.result.now c.loop-one.one-index (all_made a c.loop-one.found) (seen a c.loop-one.state) _
    c.deref-one-items.ensures.value past c.loop-one.invariant
