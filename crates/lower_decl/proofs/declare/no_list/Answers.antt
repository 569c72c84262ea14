use Rattle.std.proofs.Common.{refl}
use Rattle.lower_decl.proofs.Parameters.{made_the_parameters}
use Rattle.lower_decl.proofs.declare.no_list.Goals as goal

pub returns : goal.returns
returns c = rw (made_the_parameters, c.new.ensures.items, c.new-2.ensures.items) refl
