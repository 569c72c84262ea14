use Rattle.std.proofs.Common.{refl}
use Rattle.class_reader.proofs.Parameters.{made_the_parameters}
use Rattle.class_reader.proofs.method.no_list.Goals as goal

pub returns : goal.returns
returns c = rw (made_the_parameters, c.new.ensures.items, c.new-2.ensures.items) refl
