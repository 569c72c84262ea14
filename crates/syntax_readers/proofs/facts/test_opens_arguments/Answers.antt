use Rattle.syntax_readers.proofs.Found.{test_opens}
use Rattle.syntax_readers.proofs.facts.test_opens_arguments.Goals as goal

pub returns : goal.returns
returns c = test_opens
