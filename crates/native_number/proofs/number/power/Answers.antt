use Rattle.native_number.proofs.Wholes.{power_is}
use Rattle.native_number.proofs.number.power.Goals as goal

pub returns : goal.returns
returns c = power_is c.args.count c.requires
