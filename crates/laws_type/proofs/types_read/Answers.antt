use Rattle.laws_type.proofs.Types.{types_read_at}
use Rattle.laws_type.proofs.types_read.Goals as goal

pub returns : goal.returns
returns c = types_read_at
