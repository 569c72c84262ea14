use Rattle.machine_turn.proofs.Produced.{first_turn_is_produced}
use Rattle.machine_turn.proofs.law.first_turn_is_produced.Goals as goal

pub returns : goal.returns
returns c = first_turn_is_produced
