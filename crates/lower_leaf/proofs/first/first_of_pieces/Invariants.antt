use Rattle.std.proofs.Common.{◌≡◌, drop}
use Rattle.dart_tree.specs.Lists.{pieces_of}
use Rattle.translation.specs.Firsts as first
use Rattle.lower_leaf.proofs.first.first_of_pieces.Given as goal

abbrev pub invariant-loop-piece : goal.invariant-loop-piece
invariant-loop-piece l = first.first_of_pieces (pieces_of (drop l.piece-index l.pieces.items)) ≡ first.first_of_pieces (pieces_of l.pieces.items)
