use Rattle.std.proofs.Common.{arith}
use Rattle.dart_ir.specs.Ty.{ty}
use Rattle.dart_type.proofs.Instances.{node_count_positive}
use Rattle.dart_type.proofs.instance.+measuring.Goals as goal

pub room_after-returns-then-room-eq0 : goal.room_after-returns-then-room-eq0
room_after-returns-then-room-eq0 t c = omega (arith, node_count_positive (ty c.args.t.now))
