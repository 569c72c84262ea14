use Rattle.std.proofs.Common.{◌∙◌, Some}
use Rattle.dart_ir.specs.declared.class.Role.TheVariants.{Method}
use Rattle.evaluation.specs.Invocation.{missing_from}
use Rattle.machine_frame.specs.Outside.{setting_of}
use Rattle.machine_call.proofs.Operand.{does_alone}
use Rattle.machine_call.proofs.missing.tell_alone.Goals as goal

pub returns-clause-meaning : goal.returns-clause-meaning
returns-clause-meaning c =
    let passed = c.last_operand-passed in
    let pushed = c.in_ok-push_operand in
    c.in_ok-told.ensures.meaning
    ∙ does_alone c.args.a c.args.run.now c.push_operand.new.run c.args.one passed.result (λ g w. missing_from w c.args.at (Some c.args.class) Method (setting_of c.args.a).known.no_such_method c.args.this g)
    pushed.ensures.pushed pushed.ensures.stays passed.ensures.names passed.ensures.rest.0 passed.ensures.rest.1
