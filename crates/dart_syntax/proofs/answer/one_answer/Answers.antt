use Rattle.dart_syntax.proofs.Once as once
use Rattle.dart_syntax.proofs.answer.one_answer.Goals as goal

pub returns : goal.returns
returns c = once.one_answer
