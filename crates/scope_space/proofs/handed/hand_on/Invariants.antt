use Rattle.std.proofs.Common.{◌≡◌, ℕ, ◌<◌, true, Some, slice_get}
use Rattle.scope_space.specs.Building.{AreHanded, Keeps, Lists}
use Rattle.scope_space.proofs.handed.hand_on.Given as goal

abbrev pub invariant-loop-at : goal.invariant-loop-at
invariant-loop-at l = record {
  are : AreHanded l.libraries l.handed.items;
  kept : Keeps l.fn.handed.items l.handed.items;
  marked : (at : ℕ) → at < l.at → slice_get l.marks.items at ≡ Some true → Lists l.handed.items l.owner l.name.0 at;
}
