use Rattle.scope_space.proofs.Once.{once_meant}
use Rattle.scope_space.proofs.law.means_once.Goals as goal

pub returns : goal.returns
returns c = once_meant
