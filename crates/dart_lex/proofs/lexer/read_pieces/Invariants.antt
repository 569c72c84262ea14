use Rattle.std.proofs.Common.{length, ◌-◌, ◌+◌, ◌*◌, ◌≤◌}
use Rattle.dart_lex.proofs.LexLaws.{Going}
use Rattle.dart_lex.proofs.lexer.read_pieces.Given as goal

abbrev pub invariant-loop-at : goal.invariant-loop-at
invariant-loop-at l = record {
  within : l.at ≤ length l.bytes;
  line : l.place.line ≤ l.at + 1;
  column : l.place.column ≤ l.at + 1;
  weight : l.found.weight ≤ 4 * l.at;
  going : Going l.unit l.bytes l.found.tokens.items l.found.weight l.nesting.items l.place l.at;
}

abbrev pub decreases-loop-at : goal.decreases-loop-at
decreases-loop-at l = length l.bytes - l.at
