use Rattle.class_source.proofs.Formed.{type_formed}
use Rattle.class_source.proofs.law.header_types_are_formed.Goals as goal

pub returns : goal.returns
returns c = type_formed
