use Rattle.std.proofs.Common.{◌≡◌, ◌∙◌, ◌+◌, List, ℕ, Option, arith, sym, ap}
use Rattle.std.specs.Option.{option_map}
use Rattle.translation.specs.Surroundings as m
use Rattle.translation.specs.Types.{text_of}
use Rattle.lower_leaf.specs.Around.{meaning}
use Rattle.dart_tree.specs.declared.declaration.TypeParameter.{TypeParameter}
use Rattle.scope_dictionary.specs.Entries.{at_text}
use Rattle.scope_class.proofs.Parameters.{none-from, some-mapped, parameters-next, entry-kept, entry-put}
use Rattle.scope_class.proofs.class.add_parameters.Goals as goal
use Rattle.scope_class.proofs.class.add_parameters.Goals.{then-not-contains_key+in_ok-put, else-not-contains_key}

pub loop-one-preserved : goal.loop-one-preserved
loop-one-preserved c =
    let one = c.text_of-text.result.now in
    let value = m.type_parameter c.loop-one.number in
    let old : List ℕ → Option m.Meaning = λ text. option_map meaning (at_text c.loop-one.senses text) in
    let new : List ℕ → Option m.Meaning = λ text. option_map meaning (at_text c.if-not-contains_key.senses text) in
    let count : c.in-Some.next ≡ c.loop-one.one-index + 1 = omega (arith, c.in-Some.ensures.1, c.loop-one.invariant.count) in
    let step = parameters-next (λ (p : TypeParameter). text_of p.name) c.args.parameters.now c.loop-one.one-index c.loop-one.number c.one-item.result one
    c.loop-one-test.true c.one-item.is c.loop-one.invariant.count c.text_of-text.ensures (λ text. option_map meaning (at_text c.args.senses.now text)) old new c.loop-one.invariant.known in
    elim c.if-not-contains_key.branch [
      | then-not-contains_key+in_ok-put w ↦ record {
        count = count;
        known = step (entry-put one value old new
            (ap (option_map meaning) (none-from (at_text c.loop-one.senses one) (sym c.contains_key.ensures ∙ w.if-not-contains_key.true)))
            (λ text same. ap (λ s. option_map meaning (at_text s text)) w.senses-is ∙ ap (option_map meaning) (w.in_ok-put.ensures.here text same))
            (λ text apart. ap (λ s. option_map meaning (at_text s text)) w.senses-is ∙ ap (option_map meaning) (w.in_ok-put.ensures.apart text apart)));
      }
      | else-not-contains_key w ↦ record {
        count = count;
        known = step (λ text. ap (λ s. option_map meaning (at_text s text)) w.senses-is
            ∙ entry-kept one value old (some-mapped meaning (at_text c.loop-one.senses one) (sym c.contains_key.ensures ∙ w.if-not-contains_key.false)) text);
      }
    ]
