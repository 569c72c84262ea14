use Rattle.native_name.proofs.Each.{itself}
use Rattle.native_name.proofs.name.native_named.Goals as goal

pub returns-clause-each : goal.returns-clause-each
returns-clause-each c = itself
