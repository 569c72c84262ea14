use Rattle.std.proofs.Common.{◌∙◌}
use Rattle.core_program.specs.View as v
use Rattle.machine_form.proofs.Entered.{labels_go, labels_stop}
use Rattle.machine_form.proofs.forms.enter_labels.Goals as goal

pub returns-clause-meaning : goal.returns-clause-meaning
returns-clause-meaning c =
    c.in_ok-control.ensures.meaning
    ∙ labels_go c.args.a c.args.run.now c.push_frame.new.run c.args.core (v.core c.within.result.now) c.in_ok-push_frame.ensures.pushed c.in_ok-push_frame.ensures.stays c.within.ensures.within

pub returns-then-run-eq0-clause-meaning : goal.returns-then-run-eq0-clause-meaning
returns-then-run-eq0-clause-meaning c = labels_stop c.args.a c.args.run.now c.args.core.now c.if-run-eq0.true
