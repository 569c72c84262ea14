use Rattle.class_source.proofs.Declared.{rows_formed}
use Rattle.class_source.proofs.law.rows_are_formed.Goals as goal

pub returns : goal.returns
returns c = rows_formed
