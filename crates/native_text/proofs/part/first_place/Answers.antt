use Rattle.native_text.proofs.Places.{found, not_found}
use Rattle.native_text.proofs.part.first_place.Goals as goal

pub returns-then-stands_at : goal.returns-then-stands_at
returns-then-stands_at c =
    found c.args.sought.now c.args.units.now c.loop-at.at c.stands_at.result c.loop-at.invariant c.stands_at.ensures c.if-stands_at.true

pub loop-at-preserved : goal.loop-at-preserved
loop-at-preserved c =
    not_found c.args.sought.now c.args.units.now c.loop-at.at c.stands_at.result c.loop-at.invariant c.stands_at.ensures c.if-stands_at.false
