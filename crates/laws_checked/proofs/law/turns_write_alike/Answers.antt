use Rattle.laws_checked.proofs.Written.{turns_write_alike}
use Rattle.laws_checked.proofs.law.turns_write_alike.Goals as goal

pub returns : goal.returns
returns c = turns_write_alike
