use Rattle.std.proofs.Common.{◌≡◌, ◌+◌, ◌≤◌, take}
use Rattle.dart_lex.specs.Spelling.{after}
use Rattle.dart_lex.proofs.lexer.place_after.Given as goal

abbrev pub invariant-loop-byte : goal.invariant-loop-byte
invariant-loop-byte l = record {
  value : l.now ≡ after l.fn.place (take l.byte-index l.bytes);
  line : l.now.line ≤ l.fn.place.line + l.byte-index;
  column : l.now.column ≤ l.fn.place.column + l.byte-index;
}
