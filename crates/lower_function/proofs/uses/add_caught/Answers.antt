use Rattle.lower_function.proofs.Walked.{caught_step}
use Rattle.lower_function.proofs.uses.add_caught.Goals as goal

pub loop-one-preserved : goal.loop-one-preserved
loop-one-preserved g c = caught_step (g.S.Surroundings.around c.args.outside.now) c.args.all.now.items c.deref-one-items.result.now c.loop-one.one-index c.one-item.result
    c.loop-one.found.items c.add_option.new.found.items c.add_option-in-loop-one.new.found.items _ c.deref-one-items.ensures.value c.loop-one-test.true c.one-item.is c.in_ok-add_option.ensures c.in_ok-add_option-2.ensures c.loop-one.invariant
