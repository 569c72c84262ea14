use Rattle.std.proofs.Common.{◌≡◌, ◌∙◌, ℕ, true, sym, ap}
use Rattle.core_program.specs.View as v
use Rattle.core_program.specs.declared.form.Form.TheViews.{out-Core}
use Rattle.evaluation.specs.Parts.{takes_step}
use Rattle.core_program.specs.Core as form
use Rattle.evaluation.specs.Evaluation.{eval}
use Rattle.machine_frame.specs.Frames.{does}
use Rattle.machine_form.proofs.Entered.{comes_to, form_begins}
use Rattle.machine_form.proofs.forms.enter_within.Goals as goal

pub returns-then-takes_step-clause-meaning : goal.returns-then-takes_step-clause-meaning
returns-then-takes_step-clause-meaning c =
    let steps : takes_step (v.form (out-Core c.args.core.now).form) ≡ true = cc in
    c.in_ok-control.ensures.meaning ∙ form_begins c.args.a c.args.run.now c.args.core.now steps c.requires.steps

pub returns-clause-meaning : goal.returns-clause-meaning
returns-clause-meaning c =
    comes_to c.args.a c.take_turn.new.run c.take_turn.result _ _ (ap (λ (x : form.Core ℕ). does c.args.a c.args.run.now (eval x)) (sym c.bare_loop.ensures)) c.take_turn.ensures.meaning
