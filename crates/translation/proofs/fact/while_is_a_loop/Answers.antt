use Rattle.translation.proofs.Facts.{while_is_a_loop}
use Rattle.translation.proofs.fact.while_is_a_loop.Goals as goal

pub returns : goal.returns
returns c = while_is_a_loop
