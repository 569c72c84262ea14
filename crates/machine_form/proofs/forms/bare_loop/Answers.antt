use Rattle.std.proofs.Common.{ℕ, List, sym, ap, ◌∙◌}
use Rattle.core_program.specs.Core as form
use Rattle.core_program.specs.View as v
use Rattle.core_program.specs.declared.form.Form.TheViews.{out-Core}
use Rattle.core_program.proofs.Views.{core_out, view_loop}
use Rattle.machine_form.proofs.forms.bare_loop.Goals as goal

pub returns : goal.returns
returns c =
    let core = c.args.core.now in
    let loop = c.in-Loop in
    core_out core ∙ ap (form.at (out-Core core).place) (ap v.form loop.is ∙ view_loop loop.target loop.copies loop.condition loop.update loop.body)
    ∙ ap (λ (l : List ℕ). form.at (out-Core core).place (form.loop loop.target l (v.part loop.condition) (v.part loop.update) (v.part loop.body))) (sym c.as_slice.ensures.value)
