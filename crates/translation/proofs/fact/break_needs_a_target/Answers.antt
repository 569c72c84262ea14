use Rattle.translation.proofs.Facts.{break_needs_a_target}
use Rattle.translation.proofs.fact.break_needs_a_target.Goals as goal

pub returns : goal.returns
returns c = break_needs_a_target
