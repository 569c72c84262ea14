use Rattle.machine_form.proofs.Entered.{comes_to}
use Rattle.machine_form.proofs.Switched.{case_enters}
use Rattle.machine_form.proofs.switches.enter_case.Goals as goal

pub returns-in-Some-clause-meaning : goal.returns-in-Some-clause-meaning
returns-in-Some-clause-meaning c =
    comes_to c.args.a c.wait.new.run c.wait.result _ _
    (case_enters c.args.a c.args.run.now c.args.one c.has_no_forms-is_empty.result c.args.cases.now c.in-Some.first.now c.in-Some.behind c.in-Some.ensures.cases.0 c.has_no_forms-is_empty.ensures) c.wait.ensures.meaning
