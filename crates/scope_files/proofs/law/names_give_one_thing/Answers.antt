use Rattle.scope_files.proofs.FileLaws.{one_name}
use Rattle.scope_files.proofs.law.names_give_one_thing.Goals as goal

pub returns : goal.returns
returns c = one_name
