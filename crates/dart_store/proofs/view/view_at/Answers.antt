use Rattle.std.proofs.Common.{◌<◌, length, arith}
use Rattle.dart_store.proofs.PoolLaws.{fit_at}
use Rattle.dart_store.proofs.view.view_at.Goals as goal

pub view_of-requires : goal.view_of-requires
view_of-requires c =
    let objects = c.args.objects.now.items in
    let below : c.args.at < length objects = first_of (omega (arith, c.args.objects.now.ok, c.len.ensures, c.if-at-len.false), grind arith) in
    fit_at c.args.pool.now objects c.args.at c.index.result.now c.requires below c.index.ensures
