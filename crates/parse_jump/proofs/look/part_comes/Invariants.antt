use Rattle.std.proofs.Common.{◌≡◌, ◌≤◌, ◌-◌, length}
use Rattle.syntax_readers.specs.Statements.{part_comes}
use Rattle.parse_jump.proofs.look.part_comes.Given as goal

abbrev pub invariant-loop-turn : goal.invariant-loop-turn
invariant-loop-turn l = record {
  same : part_comes l.cursor ≡ part_comes l.ahead;
  few : length l.ahead ≤ l._turn-end - l._turn;
}
