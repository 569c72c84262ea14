use Rattle.std.proofs.Common.{◌≡◌, drop}
use Rattle.dart_tree.specs.Lists.{tails_of, pieces_of, cascades_of}
use Rattle.scope_declared.specs.Last.{cascades_last, pieces_last, tails_last}
use Rattle.scope_declared.proofs.last.+last.Given as goal

-- the last token of what is left is that of all
abbrev pub invariant-tails_last-loop-tail : goal.invariant-tails_last-loop-tail
invariant-tails_last-loop-tail l = tails_last l.last (tails_of (drop l.tail-index l.all.items)) ≡ tails_last l.fn.before (tails_of l.all.items)

abbrev pub invariant-pieces_last-loop-piece : goal.invariant-pieces_last-loop-piece
invariant-pieces_last-loop-piece l = pieces_last l.last (pieces_of (drop l.piece-index l.all.items)) ≡ pieces_last l.fn.before (pieces_of l.all.items)

abbrev pub invariant-cascades_last-loop-cascade : goal.invariant-cascades_last-loop-cascade
invariant-cascades_last-loop-cascade l = cascades_last l.last (cascades_of (drop l.cascade-index l.all.items)) ≡ cascades_last l.fn.before (cascades_of l.all.items)
