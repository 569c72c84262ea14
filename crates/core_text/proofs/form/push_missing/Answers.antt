use Rattle.core_text.proofs.Added.{behind}
use Rattle.core_text.proofs.form.push_missing.Goals as goal

pub returns : goal.returns
returns c = behind c.in_ok-push_margin.ensures c.push_text.ensures
