use Rattle.std.proofs.Common.{◌<◌, ◌≤◌, ◌∙◌, ap, map, length, arith}
use Rattle.dart_ir.specs.Ty.{ty}
use Rattle.dart_store.proofs.PoolLaws.{types_there}
use Rattle.dart_store.proofs.types.list_at.Goals as goal

pub returns : goal.returns
returns c =
    let lists = c.args.lists.now.items in
    let some : 0 < c.args.number = grind arith in
    let within : c.args.number ≤ length lists = grind arith in
    ap (λ (l : _). map ty l) c.as_slice.ensures.value ∙ types_there lists c.args.number c.index.result.now some within c.index.ensures
