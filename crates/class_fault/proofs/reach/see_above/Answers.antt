use Rattle.std.proofs.Common.{ap, arith, length, get_or}
use Rattle.class_order.specs.Order.{above}
use Rattle.class_fault.proofs.Reached.{above_read, leads_at, seen_trans, looked_more}
use Rattle.class_fault.proofs.reach.see_above.Goals as goal

pub see-requires-clause-led : goal.see-requires-clause-led
see-requires-clause-led c =
    let s = above_read c.args.headers.now c.args.queue.now.items c.args.i c.index-class.result.now c.index-headers-class.result c.deref-e-items.result.now c.requires.i c.index-class.ensures (c.requires.search.listed c.args.i c.requires.i) c.index-headers-class.is c.deref-e-items.ensures.value in
    leads_at c.args.headers.now c.args.from (get_or c.args.queue.now.items c.args.i 0) c.loop-e.e-index c.deref-e-items.result.now s (c.requires.search.led c.args.i c.requires.i) c.loop-e-test.true

pub loop-e-preserved : goal.loop-e-preserved
loop-e-preserved c =
    let s = above_read c.args.headers.now c.args.queue.now.items c.args.i c.index-class.result.now c.index-headers-class.result c.deref-e-items.result.now c.requires.i c.index-class.ensures (c.requires.search.listed c.args.i c.requires.i) c.index-headers-class.is c.deref-e-items.ensures.value in
    record {
      search = c.in_ok-see.ensures.search;
      more = seen_trans _ _ _ _ _ _ c.loop-e.invariant.more c.in_ok-see.ensures.more;
      looked = looked_more (above c.args.headers.now (get_or c.args.queue.now.items c.args.i 0)) c.loop-e.seen.items c.see.new.seen.items c.loop-e.queue.items c.see.new.queue.items c.loop-e.e-index c.in_ok-see.ensures.more c.loop-e.invariant.looked (ap (λ xs. get_or xs c.loop-e.e-index 0) s) c.in_ok-see.ensures.seen;
    }

pub returns-clause-looked : goal.returns-clause-looked
returns-clause-looked c =
    let s = above_read c.args.headers.now c.args.queue.now.items c.args.i c.index-class.result.now c.index-headers-class.result c.deref-e-items.result.now c.requires.i c.index-class.ensures (c.requires.search.listed c.args.i c.requires.i) c.index-headers-class.is c.deref-e-items.ensures.value in
    λ k l. c.loop-e.invariant.looked k (let q = ap length s in omega (arith, l, q, c.loop-e-test.false))
