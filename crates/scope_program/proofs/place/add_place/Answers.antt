use Rattle.std.proofs.Common.{◌∙◌, sym}
use Rattle.scope_program.proofs.Spots.{place-kept, place-put}
use Rattle.scope_program.proofs.place.add_place.Goals as goal

pub returns-then-contains_key : goal.returns-then-contains_key
returns-then-contains_key c =
    place-kept c.args.place c.args.number c.args.numbers.now c.spot_of-spot.result c.spot_of-spot.ensures (sym c.contains_key.ensures ∙ c.if-contains_key.true)

pub returns : goal.returns
returns c =
    place-put c.args.place c.args.number c.args.numbers.now c.spot_of-spot.result c.spot_of-spot.ensures (sym c.contains_key.ensures ∙ c.if-contains_key.false)
    c.insert.new.self c.in_ok-insert.ensures.updates.0
