use Rattle.std.proofs.Common.{refl}
use Rattle.evaluation.proofs.fact.closure_shares_variable.Goals as goal

pub returns : goal.returns
returns c = refl
