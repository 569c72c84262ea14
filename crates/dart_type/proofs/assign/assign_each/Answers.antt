use Rattle.std.proofs.Common.{length, arith}
use Rattle.dart_type.proofs.Assigned.{assigned_more, second_listed, listed_at}
use Rattle.dart_type.proofs.assign.assign_each.Goals as goal

pub floor_of-requires-clause-listed : goal.floor_of-requires-clause-listed
floor_of-requires-clause-listed c =
    let x = (listed_at (length c.args.nodes.now.items) c.args.pairs.now c.loop-pair.pair-index (record { t = 0; s = 0 }) c.requires.listed c.loop-pair-test.true).0 in
    let y = c.loop-pair.invariant.grows.longer in
    omega (arith, x, y)

pub floor_of-requires-in-loop-pair-clause-listed : goal.floor_of-requires-in-loop-pair-clause-listed
floor_of-requires-in-loop-pair-clause-listed c =
    second_listed c.args.nodes.now.items c.loop-pair.nodes.items c.floor_of.new.nodes.items c.args.pairs.now c.loop-pair.pair-index c.in_ok-t.t _ _ c.requires.listed c.loop-pair-test.true c.loop-pair.invariant.grows c.in_ok-t.ensures

pub loop-pair-preserved : goal.loop-pair-preserved
loop-pair-preserved c =
    rw (c.in_ok-push-2.ensures.items, c.in_ok-push.ensures.items)
    (assigned_more c.args.nodes.now.items c.loop-pair.nodes.items c.floor_of.new.nodes.items c.floor_of-in-loop-pair.new.nodes.items c.loop-pair.ways.items c.args.pairs.now c.loop-pair.pair-index c.in_ok-t.t c.in_ok-s.s _ c.requires.listed c.loop-pair-test.true c.loop-pair.invariant c.in_ok-t.ensures c.in_ok-s.ensures)
