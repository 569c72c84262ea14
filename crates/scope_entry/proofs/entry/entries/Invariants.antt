use Rattle.std.proofs.Common.{◌≡◌, map, take}
use Rattle.std.specs.List.{zip}
use Rattle.scope_entry.specs.Entries.{entry_of}
use Rattle.scope_entry.proofs.entry.entries.Given as goal

abbrev pub invariant-loop-at : goal.invariant-loop-at
invariant-loop-at l = l.all.items ≡ map (entry_of l.names) (take l.at (zip l.found l.kinds))
