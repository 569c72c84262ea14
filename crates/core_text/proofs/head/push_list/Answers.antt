use Rattle.core_text.proofs.Added.{behind}
use Rattle.core_text.proofs.head.push_list.Goals as goal

pub returns : goal.returns
returns c = behind c.in_ok-push_text.ensures c.push_type_arguments.ensures
