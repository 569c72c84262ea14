use Rattle.std.proofs.Common.{◌≡◌, ◌≤◌, ◌+◌, ◌-◌, true, length}
use Rattle.class_fault.specs.Search.{IsSearch, AreLooked, is_seen, unseen}
use Rattle.class_fault.proofs.reach.does_lead.Given as goal

abbrev pub invariant-loop-i : goal.invariant-loop-i
invariant-loop-i l = record {
  search : IsSearch l.headers l.from l.seen.items l.queue.items;
  from : is_seen l.seen.items l.from ≡ true;
  bound : l.i ≤ length l.queue.items;
  looked : AreLooked l.headers l.seen.items l.queue.items l.i;
}

abbrev pub decreases-loop-i : goal.decreases-loop-i
decreases-loop-i l = (unseen l.seen.items + length l.queue.items) - l.i
