use Rattle.std.proofs.Common.{◌∙◌, map, sym, ap, List}
use Rattle.core_program.specs.declared.form.Case.{Case}
use Rattle.core_program.specs.declared.form.Core.{Core}
use Rattle.core_program.specs.declared.form.Form.{Form}
use Rattle.core_program.specs.Core as k
use Rattle.core_program.specs.View as v
use Rattle.core_program.specs.Alike as alike
use Rattle.core_program.proofs.Views.{view_switch}
use Rattle.core_image.proofs.Lists.{cases_alike}
use Rattle.core_image.proofs.form.+imaging.Goals as goal

pub image_of_form-returns-in_ok-image_of_cases-in-Switch : goal.image_of_form-returns-in_ok-image_of_cases-in-Switch
image_of_form-returns-in_ok-image_of_cases-in-Switch u c =
    let target = c.in-Switch.target in
    let value = c.in-Switch.value in
    let cases = c.in-Switch.cases in
    let operand = c.in_ok-boxed_image-in-Switch.ensures ∙ ap (λ (x : Core). alike.core (v.core x)) c.deref-in-Switch.ensures in
    let branches = c.in_ok-image_of_cases-in-Switch.ensures ∙ ap (λ (l : List Case). map alike.case (map v.case l)) c.deref-in-Switch-2.ensures.value in
    view_switch target c.in_ok-boxed_image-in-Switch.field-0 c.in_ok-image_of_cases-in-Switch.field-0
    ∙ (λ i. k.switch target (operand i) (k.cases (branches i)))
    ∙ ap (k.switch target (alike.core (v.core value.value))) (cases_alike (map v.case cases.items))
    ∙ sym (ap (λ (x : Form). alike.form (v.form x)) c.in-Switch.is ∙ ap alike.form (view_switch target value cases))
