use Rattle.laws_block.proofs.SwitchDepths.{switches_at}
use Rattle.laws_block.proofs.switches_read.Goals as goal

pub returns : goal.returns
returns c = switches_at
