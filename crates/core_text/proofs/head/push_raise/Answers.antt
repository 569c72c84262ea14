use Rattle.core_text.proofs.Added.{behind, told}
use Rattle.core_text.proofs.head.push_raise.Goals as goal

pub returns : goal.returns
returns c =
    behind c.in_ok-push_text.ensures (behind (told c.error_text.ensures c.in_ok-push_text-2.ensures)
    (behind c.in_ok-push_word.ensures (told c.setter_sign.ensures c.push_text-3.ensures)))
