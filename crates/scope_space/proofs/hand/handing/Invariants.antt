use Rattle.std.proofs.Common.{◌≡◌, ℕ, true, not, length, Some, slice_get, count_by}
use Rattle.scope_space.specs.declared.library.Library.{Library}
use Rattle.scope_space.specs.Library.{shares}
use Rattle.scope_space.specs.Hands.{Hands}
use Rattle.scope_space.proofs.hand.handing.Given as goal

abbrev pub invariant-loop-at : goal.invariant-loop-at
invariant-loop-at l = record {
  long : length l.marks.items ≡ length l.libraries;
  begins : (library : Library) → slice_get l.libraries l.owner ≡ Some library → shares library l.name.0 ≡ true → slice_get l.marks.items l.owner ≡ Some true;
  sound : (at : ℕ) → slice_get l.marks.items at ≡ Some true → Hands l.libraries l.name.0 l.owner at;
}

-- how many marks are still to come
abbrev pub decreases-loop-at : goal.decreases-loop-at
decreases-loop-at l = count_by not l.marks.items
