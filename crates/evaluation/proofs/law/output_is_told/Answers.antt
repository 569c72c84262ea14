use Rattle.evaluation.proofs.Written.{output_is_told}
use Rattle.evaluation.proofs.law.output_is_told.Goals as goal

pub returns : goal.returns
returns c = output_is_told
