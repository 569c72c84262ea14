use Rattle.dart_ir.specs.declared.types.TypeRef as k
use Rattle.lower_mixin.proofs.Named.{named_seen}
use Rattle.lower_mixin.proofs.forward.dynamic_one.Goals as goal

pub returns : goal.returns
returns g c = named_seen (g.S.Surroundings.around c.args.outside.now) c.args.name
