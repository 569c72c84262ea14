use Rattle.std.proofs.Common.{sym, ap}
use Rattle.core_program.specs.declared.form.Binary.{Binary}
use Rattle.core_program.specs.View as v
use Rattle.evaluation.specs.Evaluation.{binary}
use Rattle.machine_frame.specs.Frames.{does}
use Rattle.machine_form.proofs.Entered.{comes_to}
use Rattle.machine_form.proofs.operands.finish_binary.Goals as goal

pub returns-in-Set-clause-meaning : goal.returns-in-Set-clause-meaning
returns-in-Set-clause-meaning c =
    let r = c.args.run.now in
    comes_to c.args.a c.set_operands.new.run c.set_operands.result _ _
    (ap (λ (one : Binary). does c.args.a r (λ w. binary w c.args.at (v.binary one) c.args.first c.args.second)) (sym c.in-Set.is)) c.set_operands.ensures.meaning
