use Rattle.machine_frame.specs.Outside.{setting_of, world_in}
use Rattle.machine_form.proofs.Switched.{value_found, default_found}
use Rattle.machine_form.proofs.switches.case_for.Goals as goal

pub returns-in-Some : goal.returns-in-Some
returns-in-Some c =
    value_found (setting_of c.args.a) c.args.run.now.store c.args.value (world_in c.args.a c.args.run.now.depth) c.args.cases.now c.in-Some.index c.case_with.result c.case_with.ensures c.in-Some.is

pub returns-in-None : goal.returns-in-None
returns-in-None c =
    default_found (setting_of c.args.a) c.args.run.now.store c.args.value (world_in c.args.a c.args.run.now.depth) c.args.cases.now c.default_case.result c.case_with.result c.case_with.ensures c.in-None.is c.default_case.ensures
