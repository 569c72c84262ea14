use Rattle.core_text.proofs.Added.{behind}
use Rattle.core_text.proofs.line.push_place.Goals as goal

pub returns : goal.returns
returns c =
    behind c.in_ok-push_file.ensures (behind c.in_ok-push_number.ensures
    (behind c.in_ok-push_text.ensures c.push_number-2.ensures))
