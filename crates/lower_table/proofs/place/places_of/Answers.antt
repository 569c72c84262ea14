use Rattle.std.proofs.Common.{◌∙◌, ◌++◌, ◌∷◌, [], None, sym}
use Rattle.std.proofs.lemmas.List.{map_more}
use Rattle.lower_table.specs.Rows.{place_in}
use Rattle.lower_table.proofs.place.places_of.Goals as goal

pub loop-number-preserved : goal.loop-number-preserved
loop-number-preserved c =
    let among = c.args.among.now in
    c.in_ok-push.ensures.items
    ∙ (λ i. c.loop-number.invariant i ++ c.place_in.ensures among c.in_ok-places.ensures i ∷ [])
    ∙ sym (map_more (place_in among) c.args.numbers.now c.loop-number.number-index None c.loop-number-test.true)
