use Rattle.std.proofs.Common.{◌≡◌, Some, drop}
use Rattle.dart_tree.specs.Lists.{pieces_of}
use Rattle.translation.specs.Strings as s
use Rattle.lower_string.proofs.whole.constant_units.Given as goal

abbrev pub invariant-loop-piece : goal.invariant-loop-piece
invariant-loop-piece l = s.also (Some l.found) (s.constant_units (pieces_of (drop l.piece-index l.pieces.items))) ≡ s.constant_units (pieces_of l.pieces.items)
