use Rattle.machine_form.proofs.Entered.{comes_to}
use Rattle.machine_form.proofs.Switched.{case_goes}
use Rattle.machine_form.proofs.switches.from_case.Goals as goal

pub returns-clause-meaning : goal.returns-clause-meaning
returns-clause-meaning c =
    comes_to c.args.a c.enter_case.new.run c.enter_case.result _ _
    (case_goes c.args.a c.args.run.now c.args.one c.args.index c.from_index-rest.result.now c.from_index-rest.ensures) c.enter_case.ensures.meaning
