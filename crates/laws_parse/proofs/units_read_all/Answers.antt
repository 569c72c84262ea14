use Rattle.laws_parse.proofs.Units.{units_read}
use Rattle.laws_parse.proofs.units_read_all.Goals as goal

pub returns : goal.returns
returns c = units_read
