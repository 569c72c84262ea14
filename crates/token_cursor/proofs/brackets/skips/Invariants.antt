use Rattle.std.proofs.Common.{◌≡◌, ◌-◌, drop, length}
use Rattle.token_cursor.specs.Brackets.{Measured}
use Rattle.token_cursor.proofs.brackets.skips.Given as goal

abbrev pub invariant-loop-turn : goal.invariant-loop-turn
invariant-loop-turn l = record {
  table : Measured (drop (l.count - l.turn) l.tokens) (drop (l.count - l.turn) l.found.items);
  same : length l.found.items ≡ length l.tokens;
}
