use Rattle.syntax_readers.proofs.Found.{call_is_no_target}
use Rattle.syntax_readers.proofs.facts.call_is_no_target.Goals as goal

pub returns : goal.returns
returns c = call_is_no_target
