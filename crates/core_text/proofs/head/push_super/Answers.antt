use Rattle.core_text.proofs.Added.{behind, told}
use Rattle.core_text.proofs.head.push_super.Goals as goal

pub returns : goal.returns
returns c =
    behind c.in_ok-push_text.ensures
    (behind (told c.role_text.ensures c.in_ok-push_text-2.ensures) c.push_word.ensures)
