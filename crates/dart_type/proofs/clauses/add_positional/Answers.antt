use Rattle.std.proofs.Common.{◌<◌, ◌≤◌, [], length, ap, sym, arith, subst as transport}
use Rattle.dart_type.specs.Clauses.{ways_of, AreListed, AllListed}
use Rattle.dart_type.proofs.Paired.{positional_more, pair_listed, last_clause, positional_longer, all_listed_push}
use Rattle.dart_type.proofs.clauses.add_positional.Goals as goal

pub loop-i-preserved : goal.loop-i-preserved
loop-i-preserved c =
    let in_ts : c.loop-i.i < length c.args.ts.now = omega (arith, c.loop-i-test.true, c.min-shorter.ensures) in
    let in_ss : c.loop-i.i < length c.args.ss.now = omega (arith, c.loop-i-test.true, c.min-shorter.ensures) in
    record {
      are = λ us. positional_more us c.args.ts.now c.args.ss.now c.loop-i.clauses.items c.push.new.self.items c.in_ok-way_or.field-0 c.loop-i.i c.in_ok-push.ensures.items c.in_ok-way_or.ensures in_ts in_ss _ (c.loop-i.invariant.are us);
      listed = λ n a b w. pair_listed n c.args.ts.now c.args.ss.now [] c.loop-i.clauses.items c.push.new.self.items c.in_ok-way_or.field-0 c.loop-i.i c.in_ok-push.ensures.items c.in_ok-way_or.ensures in_ts in_ss a b tt (c.loop-i.invariant.listed n a b w);
    }

pub returns-clause-are : goal.returns-clause-are
returns-clause-are c = λ us.
    let past : length c.args.ts.now ≤ c.loop-i.i = omega (arith, c.loop-i-test.false, c.if-ss-ts.false, c.min-shorter.ensures) in
    let within : c.loop-i.i < length c.args.ss.now = omega (arith, c.loop-i.auto.i-end, c.if-ss-ts.false, c.min-shorter.ensures) in
    last_clause us c.loop-i.clauses.items c.push-2.new.self.items c.new.result [] _ _ c.in_ok-push-2.ensures.items (ap (ways_of us) c.new.ensures.items)
    (positional_longer us c.args.ts.now c.args.ss.now c.loop-i.i past within) (c.loop-i.invariant.are us)

pub returns-clause-listed : goal.returns-clause-listed
returns-clause-listed c = λ n a b w.
    transport (AllListed n) (sym c.in_ok-push-2.ensures.items)
    (all_listed_push n c.loop-i.clauses.items c.new.result (c.loop-i.invariant.listed n a b w) (transport (AreListed n) (sym c.new.ensures.items) tt))
