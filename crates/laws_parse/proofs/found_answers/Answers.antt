use Rattle.laws_parse.proofs.Found.{found_answered}
use Rattle.laws_parse.proofs.found_answers.Goals as goal

pub returns : goal.returns
returns c = found_answered
