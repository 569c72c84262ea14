use Rattle.std.proofs.Common.{◌≡◌, ◌+◌, ◌≤◌, length}
use Rattle.syntax_readers.specs.Declarations.{before_body}
use Rattle.parse_constructor.proofs.scan.before_body.Given as goal

abbrev pub invariant-loop-turn : goal.invariant-loop-turn
invariant-loop-turn l = record {
  counted : before_body 0 l.cursor ≡ l.turn + before_body l.unclosed l.ahead;
  few : l.turn + length l.ahead ≡ l.turn-end;
  low : l.unclosed ≤ l.turn;
}
