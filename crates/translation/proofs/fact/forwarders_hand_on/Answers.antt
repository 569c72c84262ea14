use Rattle.translation.proofs.Facts.{forwarders_hand_on}
use Rattle.translation.proofs.fact.forwarders_hand_on.Goals as goal

pub returns : goal.returns
returns c = forwarders_hand_on
