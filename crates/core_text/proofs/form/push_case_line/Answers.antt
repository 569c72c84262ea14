use Rattle.core_text.specs.Form.{case_line}
use Rattle.core_text.proofs.Added.{behind}
use Rattle.core_text.proofs.form.push_case_line.Goals as goal

pub returns : goal.returns
unfolding case_line
returns c = behind c.in_ok-push_margin.ensures c.push_case_value.ensures
