use Rattle.laws_constructor.proofs.Found.{braces_close_at}
use Rattle.laws_constructor.proofs.braces_close.Goals as goal

pub returns : goal.returns
returns c = braces_close_at
