use Rattle.scope_space.proofs.Once.{once_bound}
use Rattle.scope_space.proofs.law.bound_once.Goals as goal

pub returns : goal.returns
returns c = once_bound
