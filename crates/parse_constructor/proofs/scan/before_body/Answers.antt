use Rattle.std.proofs.Common.{◌≡◌, ◌<◌, ap, ap₂, sym, drop, length, arith}
use Rattle.syntax_readers.specs.Declarations.{before_body}
use Rattle.parse_constructor.specs.Views.{open_after}
use Rattle.parse_constructor.proofs.Scanning.{here, further, none_left, one_more_open, shorter}
use Rattle.parse_constructor.proofs.scan.before_body.Goals as goal

pub loop-turn-init : goal.loop-turn-init
loop-turn-init c =
    let e = ap length c.fork-ahead.ensures in
    let b = ap (before_body 0) c.fork-ahead.ensures in
    record {
      counted = omega (arith, b);
      few = omega (arith, c.left-turn-end.ensures, e);
      low = omega arith;
    }

pub returns-then-is_body : goal.returns-then-is_body
returns-then-is_body c =
    let k = here c.loop-turn.unclosed c.loop-turn.ahead (sym c.if-is_body.ensures) in
    omega (arith, c.loop-turn.invariant.counted, k)

pub loop-turn-preserved : goal.loop-turn-preserved
loop-turn-preserved c =
    let i = c.loop-turn.invariant in
    let n = c.loop-turn.unclosed in
    let ahead = c.loop-turn.ahead in
    let some : 0 < length ahead = omega (arith, i.few, c.loop-turn-test.true) in
    let k = further n ahead (sym c.if-is_body.ensures) some in
    let s = shorter ahead some in
    let l = ap length c.behind_next-ahead.ensures in
    let b : before_body c.open_after-unclosed.result c.behind_next-ahead.result ≡ before_body (open_after n ahead) (drop 1 ahead) =
    ap₂ before_body c.open_after-unclosed.ensures c.behind_next-ahead.ensures in
    record {
      counted = omega (arith, i.counted, k, b);
      few = omega (arith, i.few, s, l);
      low = omega (arith, i.low, one_more_open n ahead, c.open_after-unclosed.ensures);
    }

pub returns : goal.returns
returns c =
    let i = c.loop-turn.invariant in
    let f = i.few in
    let none = none_left c.loop-turn.unclosed c.loop-turn.ahead (omega (arith, f, c.loop-turn-test.false)) in
    omega (arith, i.counted, f, none, c.left.ensures)
