use Rattle.dart.proofs.Outcomes as outcomes
use Rattle.dart.proofs.law.erased_outcomes_are_one.Goals as goal

pub returns : goal.returns
returns c = outcomes.erased_outcomes_are_one
