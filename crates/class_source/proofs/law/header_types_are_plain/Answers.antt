use Rattle.class_source.proofs.Formed.{type_plain}
use Rattle.class_source.proofs.law.header_types_are_plain.Goals as goal

pub returns : goal.returns
returns c = type_plain
