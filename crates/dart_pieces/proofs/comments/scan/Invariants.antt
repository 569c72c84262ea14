use Rattle.std.proofs.Common.{length, ◌+◌, ◌-◌, ◌≤◌}
use Rattle.dart_pieces.proofs.CommentLaws.{Scanned}
use Rattle.dart_pieces.proofs.comments.scan.Given as goal

abbrev pub invariant-loop-depth : goal.invariant-loop-depth
invariant-loop-depth l = record {
  within : l.at ≤ length l.text;
  depth : l.depth ≤ l.at + 1;
  value : Scanned l.text l.at l.depth;
}

abbrev pub decreases-loop-depth : goal.decreases-loop-depth
decreases-loop-depth l = length l.text - l.at
