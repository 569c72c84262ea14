use Rattle.machine_form.proofs.Acts.{loop_goes}
use Rattle.machine_form.proofs.Entered.{comes_to}
use Rattle.machine_form.proofs.forms.enter_free.Goals as goal

pub returns-in-Loop-clause-meaning : goal.returns-in-Loop-clause-meaning
returns-in-Loop-clause-meaning c =
    let loop = c.in-Loop in
    comes_to c.args.a c.begin_turn.new.run c.begin_turn.result _ _ (loop_goes c.args.a c.args.run.now c.args.core.now loop.target loop.copies loop.condition loop.update loop.body c.as_slice.result.now loop.is c.as_slice.ensures.value) c.begin_turn.ensures.meaning
