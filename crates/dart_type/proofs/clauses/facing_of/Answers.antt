use Rattle.std.proofs.Common.{◌≡◌, ◌<◌, length, min, ap, sym, arith, subst as transport}
use Rattle.dart_type.specs.Clauses.{ways_of, AreListed, AllListed}
use Rattle.dart_type.proofs.Paired.{facing_more, pair_listed, last_clause, facing_uneven, all_listed_push}
use Rattle.dart_type.proofs.clauses.facing_of.Goals as goal

pub loop-i-preserved : goal.loop-i-preserved
loop-i-preserved c =
    let in_ts : c.loop-i.i < length c.args.ts.now = omega (arith, c.loop-i-test.true, c.min-shorter.ensures) in
    let in_ss : c.loop-i.i < length c.args.ss.now = omega (arith, c.loop-i-test.true, c.min-shorter.ensures) in
    record {
      are = λ us. facing_more us c.args.ts.now c.args.ss.now c.args.ways.now c.loop-i.clauses.items c.push.new.self.items c.in_ok-way_or.field-0 c.loop-i.i c.in_ok-push.ensures.items c.in_ok-way_or.ensures in_ts in_ss _ (c.loop-i.invariant.are us);
      listed = λ n a b w. pair_listed n c.args.ts.now c.args.ss.now c.args.ways.now c.loop-i.clauses.items c.push.new.self.items c.in_ok-way_or.field-0 c.loop-i.i c.in_ok-push.ensures.items c.in_ok-way_or.ensures in_ts in_ss a b w (c.loop-i.invariant.listed n a b w);
    }

pub returns-clause-are : goal.returns-clause-are
returns-clause-are c = λ us.
    let at_end : c.loop-i.i ≡ min (length c.args.ts.now) (length c.args.ss.now) = omega (arith, c.loop-i-test.false, c.loop-i.auto.i-end, c.min-shorter.ensures) in
    last_clause us c.loop-i.clauses.items c.push-2.new.self.items c.in_ok-from_slice.field-0 (ways_of us c.args.ways.now) _ _ c.in_ok-push-2.ensures.items (ap (ways_of us) c.in_ok-from_slice.ensures.items)
    (facing_uneven us c.args.ts.now c.args.ss.now (ways_of us c.args.ways.now) c.loop-i.i c.if-ts-ss.false at_end) (c.loop-i.invariant.are us)

pub returns-clause-listed : goal.returns-clause-listed
returns-clause-listed c = λ n a b w.
    transport (AllListed n) (sym c.in_ok-push-2.ensures.items)
    (all_listed_push n c.loop-i.clauses.items c.in_ok-from_slice.field-0 (c.loop-i.invariant.listed n a b w) (transport (AreListed n) (sym c.in_ok-from_slice.ensures.items) w))
