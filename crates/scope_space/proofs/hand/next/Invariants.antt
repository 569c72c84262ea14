use Rattle.std.proofs.Common.{◌≡◌, ◌<◌, ℕ, true, Some, slice_get}
use Rattle.scope_space.specs.Building.{takes_over}
use Rattle.scope_space.specs.declared.library.Library.{Library}
use Rattle.scope_space.proofs.hand.next.Given as goal

abbrev pub invariant-loop-at : goal.invariant-loop-at
invariant-loop-at l = (at : ℕ) (library : Library) → at < l.at → slice_get l.libraries at ≡ Some library → takes_over l.marks l.name.0 library ≡ true → slice_get l.marks at ≡ Some true
