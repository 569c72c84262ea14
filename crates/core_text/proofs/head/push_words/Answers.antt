use Rattle.core_text.proofs.Added.{behind}
use Rattle.core_text.proofs.head.push_words.Goals as goal

pub returns : goal.returns
returns c = behind c.in_ok-push_text.ensures (behind c.in_ok-push_word.ensures c.push_word-2.ensures)
