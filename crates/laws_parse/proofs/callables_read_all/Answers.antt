use Rattle.laws_parse.proofs.Declarations.{callables_read}
use Rattle.laws_parse.proofs.callables_read_all.Goals as goal

pub returns : goal.returns
returns c = callables_read
