use Rattle.std.proofs.Common.{◌<◌, length, arith}
use Rattle.dart_store.proofs.PoolLaws.{text_length}
use Rattle.dart_store.proofs.objects.length_among.Goals as goal

pub returns-in-Text : goal.returns-in-Text
returns-in-Text c = λ p fit.
    let objects = c.args.objects.now.items in
    let below : c.args.at < length objects = first_of (omega (arith, c.args.objects.now.ok, c.len.ensures, c.if-at-len.false), grind arith) in
    text_length p objects c.args.at c.index.result.now c.in-Text.start c.in-Text.len fit below c.index.ensures c.in-Text.is
