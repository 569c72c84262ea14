use Rattle.std.proofs.Common.{ap, sym, ◌∙◌}
use Rattle.core_program.specs.View as v
use Rattle.core_program.proofs.Views.{view_malformed}
use Rattle.core_text.specs.Form.{test}
use Rattle.core_text.proofs.Added.{told}
use Rattle.core_text.proofs.form.push_test.Goals as goal

pub returns-in-Malformed : goal.returns-in-Malformed
returns-in-Malformed c =
    told (ap (test c.args.program.now) (sym (ap v.test c.in-Malformed.is ∙ view_malformed c.in-Malformed.field-0))) c.push_text-in-Malformed.ensures
