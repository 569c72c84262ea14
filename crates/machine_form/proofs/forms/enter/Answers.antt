use Rattle.std.proofs.Common.{◌≡◌, ◌≢◌, ◌∙◌, true, rules, arith}
use Rattle.core_program.specs.View as v
use Rattle.core_program.specs.declared.form.Form.TheViews.{out-Core}
use Rattle.evaluation.specs.Parts.{takes_step}
use Rattle.machine_form.proofs.Entered.{form_begins, form_stops}
use Rattle.machine_form.proofs.forms.enter.Goals as goal

pub returns-clause-meaning : goal.returns-clause-meaning
returns-clause-meaning c =
    let steps : takes_step (v.form (out-Core c.args.core.now).form) ≡ true = first_of (cc, search rules, grind arith) in
    let left : c.args.run.now.left ≢ 0 = first_of (search rules, grind arith) in
    c.in_ok-control.ensures.meaning ∙ form_begins c.args.a c.args.run.now c.args.core.now steps left

pub returns-then-run-eq0-clause-meaning : goal.returns-then-run-eq0-clause-meaning
returns-then-run-eq0-clause-meaning c =
    let steps : takes_step (v.form (out-Core c.args.core.now).form) ≡ true = first_of (cc, search rules, grind arith) in
    form_stops c.args.a c.args.run.now c.args.core.now steps c.if-run-eq0.true
