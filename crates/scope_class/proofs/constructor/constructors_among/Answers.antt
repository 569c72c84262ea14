use Rattle.std.proofs.Common.{◌≡◌, ◌∙◌, ◌+◌, List, ℕ, Option, true, false, get_or, length, arith, sym, ap}
use Rattle.std.specs.Option.{option_map}
use Rattle.std.proofs.lemmas.List.{get_or_default}
use Rattle.std.proofs.lemmas.Option.{slice_get-get_or}
use Rattle.scope_declared.specs.declared.declaration.Declared.{Declared}
use Rattle.lower_leaf.specs.Around.{constructor}
use Rattle.translation.specs.Surroundings.{Made}
use Rattle.scope_dictionary.specs.Entries.{at_text}
use Rattle.scope_class.specs.Constructors.{is_constructor, constructor_id, made_by}
use Rattle.scope_class.specs.declared.constructor.Making.{Making}
use Rattle.scope_class.specs.declared.constructor.Making.TheVariants.{Generative}
use Rattle.scope_class.proofs.Nothing.{nothing}
use Rattle.scope_class.proofs.Parameters.{entry-at}
use Rattle.scope_class.proofs.Written.{one-constructor, same-constructors, next-made, next-past, next-other}
use Rattle.scope_class.proofs.constructor.constructors_among.Goals as goal
use Rattle.scope_class.proofs.constructor.constructors_among.Goals.{then-is_constructor, then-place-ways+in_ok-id+in_ok-add_constructor, else-place-ways, else-is_constructor}

pub loop-one-preserved : goal.loop-one-preserved
loop-one-preserved c =
    let first = c.args.first in
    let i = c.loop-one.one-index in
    let inside = c.args.inside.now in
    let ways = c.args.ways.now in
    let place = c.loop-one.place in
    let one : Declared = get_or inside i nothing in
    let below = c.loop-one-test.true in
    let at = get_or_default inside i nothing one below in
    let old : List ℕ → Option Made = λ id. option_map constructor (at_text c.loop-one.made id) in
    let new : List ℕ → Option Made = λ id. option_map constructor (at_text c.if-is_constructor.made id) in
    let I = c.loop-one.invariant in
    elim c.if-is_constructor.branch [
      | then-is_constructor w ↦
          let is : is_constructor one.kind ≡ true = sym c.is_constructor.ensures ∙ w.if-is_constructor.true in
          record {
            count = omega (arith, I.count);
            within = omega (arith, I.within, w.place-is);
            placed = w.place-is ∙ ap (λ n. n + 1) I.placed ∙ sym (one-constructor first i inside one below at is);
            known = elim w.if-place-ways.branch [
              | then-place-ways+in_ok-id+in_ok-add_constructor v ↦
                  let way : Making = get_or ways place Generative in
                  next-made first i inside one below at c.args.names.now ways c.loop-one.number place I.count I.placed old new I.known is way
                  (slice_get-get_or ways place Generative v.if-place-ways.true)
                  (λ id. ap (λ s. option_map constructor (at_text s id)) (w.made-is ∙ v.made-is) ∙ v.in_ok-add_constructor.ensures id
                  ∙ entry-at id (old id) v.in_ok-id.id.now (constructor_id c.args.names.now one) (constructor v.made_by.result) (made_by way c.loop-one.number) v.in_ok-id.ensures v.made_by.ensures)
              | else-place-ways v ↦
                  next-past first i inside one below at c.args.names.now ways c.loop-one.number place I.count I.placed old new I.known is v.if-place-ways.false
                  (λ id. ap (λ s. option_map constructor (at_text s id)) (w.made-is ∙ v.made-is))
            ];
          }
      | else-is_constructor w ↦
          let is : is_constructor one.kind ≡ false = sym c.is_constructor.ensures ∙ w.if-is_constructor.false in
          record {
            count = omega (arith, I.count);
            within = omega (arith, I.within, w.place-is);
            placed = w.place-is ∙ I.placed ∙ sym (ap length (same-constructors first i inside one below at is));
            known = next-other first i inside one below at c.args.names.now ways c.loop-one.number place I.count I.placed old new I.known is
                (λ id. ap (λ s. option_map constructor (at_text s id)) w.made-is);
          }
    ]
