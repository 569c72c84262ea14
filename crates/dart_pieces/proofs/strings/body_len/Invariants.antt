use Rattle.std.proofs.Common.{length, drop, ◌-◌, ◌+◌, ◌≤◌, ◌≡◌}
use Rattle.dart_pieces.specs.Reader.{body_len}
use Rattle.dart_pieces.proofs.strings.body_len.Given as goal

abbrev pub invariant-elements : goal.invariant-elements
invariant-elements l = record {
  within : l.at ≤ length l.text;
  value : body_len l.quote l.text ≡ l.at + body_len l.quote (drop l.at l.text);
}

abbrev pub decreases-elements : goal.decreases-elements
decreases-elements l = length l.text - l.at
