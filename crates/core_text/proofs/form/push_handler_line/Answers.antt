use Rattle.core_text.specs.Form.{handler_line}
use Rattle.core_text.proofs.Added.{behind}
use Rattle.core_text.proofs.form.push_handler_line.Goals as goal

pub returns : goal.returns
unfolding handler_line
returns c =
    behind c.in_ok-push_margin.ensures (behind c.in_ok-push_test.ensures (behind c.in_ok-push_variable.ensures
    (behind c.in_ok-push_variable-2.ensures c.push_text.ensures)))
