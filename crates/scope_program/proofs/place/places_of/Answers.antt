use Rattle.std.proofs.Common.{◌∙◌, Some, None, cond, get_or, take, arith, sym, ap}
use Rattle.std.specs.Option.{option_or}
use Rattle.std.proofs.lemmas.List.{get_or_default}
use Rattle.scope_declared.specs.declared.declaration.Declared.{Declared}
use Rattle.scope_class.proofs.Nothing.{nothing}
use Rattle.scope_program.specs.Classes.{position_of, same_place}
use Rattle.scope_program.proofs.Positions.{position-more}
use Rattle.scope_program.proofs.place.places_of.Goals as goal

pub loop-one-preserved : goal.loop-one-preserved
loop-one-preserved c =
    let all = c.args.numbered.now in
    let i = c.loop-one.one-index in
    let one : Declared = get_or all i nothing in
    record {
      count = omega (arith, c.loop-one.invariant.count);
      known = λ place.
          c.in_ok-add_place.ensures place
          ∙ ap (λ o. option_or o (cond (same_place one.place place) (Some c.loop-one.number) None)) (c.loop-one.invariant.known place)
          ∙ ap (λ n. option_or (position_of (take i all) place) (cond (same_place one.place place) (Some n) None)) c.loop-one.invariant.count
          ∙ sym (position-more (λ (d : Declared). same_place d.place place) all i one c.loop-one-test.true (get_or_default all i nothing one c.loop-one-test.true));
    }
