use Rattle.std.proofs.Common.{◌≡◌, ℕ, length, Some, slice_get}
use Rattle.scope_space.specs.declared.library.Library.{Library}
use Rattle.scope_space.specs.declared.space.Space.{Space}
use Rattle.scope_space.specs.Building.{IsSpaceFrom}
use Rattle.scope_space.proofs.space.spaces_of.Given as goal

abbrev pub invariant-loop-library : goal.invariant-loop-library
invariant-loop-library l = record {
  long : length l.spaces.items ≡ l.library-index;
  each : (at : ℕ) (library : Library) (space : Space) → slice_get l.libraries at ≡ Some library
      → slice_get l.spaces.items at ≡ Some space → IsSpaceFrom l.handed library space;
}
