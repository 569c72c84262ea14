use Rattle.std.proofs.Common.{ℕ, ◌<◌}
use Rattle.scope_space.specs.Building.{AreHanded, ListsAll}
use Rattle.scope_space.proofs.handed.handed_of.Given as goal

abbrev pub invariant-loop-owner : goal.invariant-loop-owner
invariant-loop-owner l = record {
  are : AreHanded l.libraries l.handed.items;
  all : (owner : ℕ) → owner < l.owner → ListsAll l.libraries l.handed.items owner;
}
