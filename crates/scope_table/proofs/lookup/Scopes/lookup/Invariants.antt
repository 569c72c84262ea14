use Rattle.std.proofs.Common.{◌≤◌, length}
use Rattle.std.specs.List.{AllWithin}
use Rattle.scope_table.proofs.Best.{Silent, Begun}
use Rattle.scope_table.proofs.lookup.Scopes.lookup.Given as goal

-- what comes later is nothing that the name means, and what comes sooner has begun
abbrev pub invariant-loop-end : goal.invariant-loop-end
invariant-loop-end l = record {
  silent : AllWithin (Silent l.at l.name) l.self.entries.items l.end (length l.self.entries.items);
  begun : AllWithin (Begun l.at l.name) l.self.entries.items 0 l.end;
  within : l.end ≤ length l.self.entries.items;
}

abbrev pub decreases-loop-end : goal.decreases-loop-end
decreases-loop-end l = l.end
