use Rattle.lower_function.specs.Uses.{functions_of}
use Rattle.lower_function.proofs.Walked.{handlers_step, cases_step}
use Rattle.lower_function.proofs.uses.+uses.Goals as goal

pub add_handlers-loop-one-preserved : goal.add_handlers-loop-one-preserved
add_handlers-loop-one-preserved g t c =
    let a = g.S.Surroundings.around c.args.outside.now in
    handlers_step a (functions_of a c.args.functions.now) c.args.all.now.items c.deref-one-items.result.now c.loop-one.one-index c.one-item.result
    c.loop-one.found.items c.add_test.new.found.items c.add_core.new.found.items _ c.deref-one-items.ensures.value c.loop-one-test.true c.one-item.is c.in_ok-add_test.ensures c.in_ok-add_core.ensures c.loop-one.invariant

pub add_cases-loop-one-preserved : goal.add_cases-loop-one-preserved
add_cases-loop-one-preserved g t c =
    let a = g.S.Surroundings.around c.args.outside.now in
    cases_step a (functions_of a c.args.functions.now) c.args.all.now.items c.deref-one-items.result.now c.loop-one.one-index c.one-item.result
    c.loop-one.found.items c.add_core.new.found.items _ c.deref-one-items.ensures.value c.loop-one-test.true c.one-item.is c.in_ok-add_core.ensures c.loop-one.invariant
