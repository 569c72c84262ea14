use Rattle.lower_function.proofs.Walked.{taken_step}
use Rattle.lower_function.proofs.uses.add_taken.Goals as goal

pub loop-one-preserved : goal.loop-one-preserved
loop-one-preserved g c = taken_step (g.S.Surroundings.around c.args.outside.now) c.args.number.0 c.args.functions.now.items c.deref-one-items.result.now c.loop-one.one-index c.one-item.result
    c.loop-one.found.items c.add_made.new.found.items _ c.deref-one-items.ensures.value c.loop-one-test.true c.one-item.is c.in_ok-add_made.ensures c.loop-one.invariant
