use Rattle.std.proofs.Common.{◌∙◌}
use Rattle.machine_value.proofs.Checked.{refused_by}
use Rattle.machine_value.proofs.checks.refusal_by.Goals as goal

pub returns-clause-refused : goal.returns-clause-refused
returns-clause-refused c go =
    c.in_ok-control.ensures.meaning
    ∙ refused_by c.args.a c.args.run.now c.push_report.new.run c.args.number c.args.value c.args.program c.in_ok-found.found c.in-Some.site c.requires.checked
    c.in_ok-found.ensures c.in-Some.is c.in_ok-push_report.ensures.pushed c.in_ok-push_report.ensures.stays go
