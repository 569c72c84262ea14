use Rattle.std.proofs.Common.{sym, ap, ◌∙◌}
use Rattle.core_program.specs.declared.form.Unary.{Unary}
use Rattle.core_program.specs.View as v
use Rattle.evaluation.specs.Evaluation.{unary}
use Rattle.machine_frame.specs.Frames.{does}
use Rattle.machine_form.proofs.Entered.{comes_to, get_class}
use Rattle.machine_form.proofs.operands.finish_unary.Goals as goal

pub returns-in-Get-clause-meaning : goal.returns-in-Get-clause-meaning
returns-in-Get-clause-meaning c =
    let r = c.args.run.now in
    comes_to c.args.a c.get_from.new.run c.get_from.result _ _
    (get_class c.args.a r c.args.at c.in-Get.name.0 c.args.value c.class_of-class.result c.class_of-class.ensures
    ∙ ap (λ (one : Unary). does c.args.a r (λ w. unary w c.args.at c.args.is_function (v.unary one) c.args.value)) (sym c.in-Get.is)) c.get_from.ensures.meaning
