use Rattle.core_text.specs.Declaration.{slots}
use Rattle.core_text.proofs.Added.{behind}
use Rattle.core_text.proofs.declaration.push_slots.Goals as goal

pub returns : goal.returns
unfolding slots
returns c = behind c.in_ok-push_counted.ensures (behind c.in_ok-push_text.ensures c.push_numbers.ensures)
