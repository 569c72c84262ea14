use Rattle.std.proofs.Common.{◌≡◌, ◌+◌, drop, length}
use Rattle.dart_syntax.specs.Edges.{tails_take, cascades_take}
use Rattle.dart_tree.specs.Lists.{tails_of, cascades_of}
use Rattle.parse_edge.specs.Opened.{opened_by}
use Rattle.parse_edge.proofs.edge.+edges.Given as goal

-- the last of those that are left is the last of all
abbrev pub invariant-tails_take-loop-tail : goal.invariant-tails_take-loop-tail
invariant-tails_take-loop-tail l = record {
  few : l.left + l.tail-index ≡ length l.tails.items;
  same : tails_take l.next.binds (opened_by l.next.opens) l.from (tails_of (drop l.tail-index l.tails.items)) ≡ tails_take l.next.binds (opened_by l.next.opens) l.from (tails_of l.tails.items);
}

abbrev pub invariant-cascades_take-loop-cascade : goal.invariant-cascades_take-loop-cascade
invariant-cascades_take-loop-cascade l = record {
  few : l.left + l.cascade-index ≡ length l.cascades.items;
  same : cascades_take l.next.binds (opened_by l.next.opens) l.from (cascades_of (drop l.cascade-index l.cascades.items)) ≡ cascades_take l.next.binds (opened_by l.next.opens) l.from (cascades_of l.cascades.items);
}
