use Rattle.std.proofs.Common.{◌∙◌, true≢false, get_or, arith, sym, ap}
use Rattle.std.specs.Option.{option_map}
use Rattle.std.proofs.lemmas.List.{get_or_default}
use Rattle.scope_declared.specs.declared.declaration.Declared.{Declared}
use Rattle.lower_leaf.specs.Around.{meaning}
use Rattle.scope_dictionary.specs.Entries.{at_text}
use Rattle.scope_class.specs.Inside.{selects}
use Rattle.scope_class.proofs.Nothing.{nothing}
use Rattle.scope_class.proofs.Adding.{senses-next}
use Rattle.scope_class.proofs.members.senses_of.Goals as goal
use Rattle.scope_class.proofs.members.senses_of.Goals.{then-selects+in_ok-add_member, else-selects}

pub loop-one-preserved : goal.loop-one-preserved
loop-one-preserved c =
    let inside = c.args.inside.now in
    let i = c.loop-one.one-index in
    let one : Declared = get_or inside i nothing in
    let step = senses-next (selects c.args.wanted) c.args.names.now c.args.suffix.now c.args.first i c.loop-one.number inside one c.loop-one-test.true
    (get_or_default inside i nothing one c.loop-one-test.true) c.loop-one.invariant.count
    (λ text. option_map meaning (at_text c.loop-one.senses text)) (λ text. option_map meaning (at_text c.if-selects.senses text)) c.loop-one.invariant.known in
    elim c.if-selects.branch [
      | then-selects+in_ok-add_member w ↦ record {
        count = omega (arith, c.loop-one.invariant.count);
        known = step
            (λ yes text. ap (λ s. option_map meaning (at_text s text)) w.senses-is ∙ w.in_ok-add_member.ensures text)
            (λ no text. absurd (true≢false (sym w.if-selects.true ∙ c.selects.ensures ∙ no)));
      }
      | else-selects w ↦ record {
        count = omega (arith, c.loop-one.invariant.count);
        known = step
            (λ yes text. absurd (true≢false (sym yes ∙ sym c.selects.ensures ∙ w.if-selects.false)))
            (λ no text. ap (λ s. option_map meaning (at_text s text)) w.senses-is);
      }
    ]
