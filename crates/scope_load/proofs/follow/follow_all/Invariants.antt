use Rattle.std.proofs.Common.{◌≡◌, ◌≤◌, length, fold, drop}
use Rattle.scope_load.specs.State.{state_of, most_units, mentioned}
use Rattle.scope_load.proofs.follow.follow_all.Given as goal

-- the mentions that are left lead to the same state
abbrev pub invariant-loop-mention : goal.invariant-loop-mention
invariant-loop-mention l = record {
  room : length l.loaded.names.items ≤ most_units;
  units : l.loaded.units.items ≡ l.initial.loaded.units.items;
  weight : l.loaded.weight ≡ l.initial.loaded.weight;
  state : fold (mentioned l.folder l.by) (state_of l.loaded) (drop l.mention-index l.mentions) ≡ fold (mentioned l.folder l.by) (state_of l.initial.loaded) l.mentions;
}
