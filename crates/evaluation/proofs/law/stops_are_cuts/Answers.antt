use Rattle.evaluation.proofs.Agreed.{stops_are_cuts}
use Rattle.evaluation.proofs.law.stops_are_cuts.Goals as goal

pub returns : goal.returns
returns c = stops_are_cuts
