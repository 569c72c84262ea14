use Rattle.core_text.proofs.Added.{behind, told}
use Rattle.core_text.proofs.head.push_required.Goals as goal

pub returns : goal.returns
returns c = behind c.in_ok-push_asked.ensures (told c.mark.ensures c.push_text.ensures)
