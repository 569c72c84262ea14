use Rattle.std.proofs.Common.{◌≡◌, ℕ, ◌<◌, true, get_or}
use Rattle.class_order.specs.Order.{above}
use Rattle.class_fault.specs.Search.{IsSearch, IsSeenMore, is_seen}
use Rattle.class_fault.proofs.reach.see_above.Given as goal

abbrev pub invariant-loop-e : goal.invariant-loop-e
invariant-loop-e l = record {
  search : IsSearch l.headers l.from l.seen.items l.queue.items;
  more : IsSeenMore l.fn.seen.items l.seen.items l.fn.queue.items l.queue.items;
  looked : (k : ℕ) → k < l.e-index → is_seen l.seen.items (get_or (above l.headers (get_or l.fn.queue.items l.i 0)) k 0) ≡ true;
}
