use Rattle.std.proofs.Common.{sym, ◌<◌, ◌+◌, ◌*◌, get_or}
use Rattle.dart_pieces.specs.Numbers.{digit}
use Rattle.dart_pieces.proofs.NumberLaws.{value_above, none_above}
use Rattle.dart_pieces.proofs.numbers.exceeds.Goals as goal

pub returns-in-None : goal.returns-in-None
returns-in-None c =
    let more : c.args.limit < c.loop-b.value * c.args.base + c.digit.result = none_above c.args.limit (c.loop-b.value * c.args.base + c.digit.result) c.next_value.result c.next_value.ensures c.in-None.is in
    let above : c.args.limit < c.loop-b.value * c.args.base + digit (get_or c.args.digits.now c.loop-b.b-index 0) = rw c.digit.ensures at more in
    sym (value_above c.args.limit c.args.base c.loop-b.value c.loop-b.b-index c.args.digits.now c.requires c.loop-b-test.true above c.loop-b.invariant.value)
