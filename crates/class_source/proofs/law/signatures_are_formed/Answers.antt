use Rattle.class_source.proofs.Formed.{signature_formed}
use Rattle.class_source.proofs.law.signatures_are_formed.Goals as goal

pub returns : goal.returns
returns c = signature_formed
