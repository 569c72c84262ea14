-- What a library hands out to those that import or export it (ECMA-408, Exports).
use Rattle.std.specs.Prelude.{◌≡◌, ℕ, Bool, true, false, List, Some, slice_get, Contains}
use Rattle.scope_space.specs.declared.library.Export.{Export}
use Rattle.scope_space.specs.declared.library.Library.{Library}
use Rattle.scope_space.specs.Library.{declares, shares, passes}

-- Library number `at` hands out the name as library number `owner` declares it: its own declaration, or, where it
-- has none of the name, what an export lets through from a library that hands it out. This is the least such
-- relation, so exports may go in a circle.
pub data Hands (libraries : List Library) (name owner : ℕ) : ℕ → Type 0 where
  own : (library : Library) → slice_get libraries owner ≡ Some library → shares library name ≡ true
      → Hands libraries name owner owner
  again : (at : ℕ) (library : Library) (export : Export) → slice_get libraries at ≡ Some library
      → declares library name ≡ false → Contains library.exports.items export
      → passes name export.combinators.items ≡ true → Hands libraries name owner export.target
      → Hands libraries name owner at

-- The marks stand exactly at the libraries that hand the name out.
abbrev pub MarksHands : List Library → ℕ → ℕ → List Bool → Type 0
MarksHands libraries name owner marks = (at : ℕ) → (slice_get marks at ≡ Some true → Hands libraries name owner at)
    × (Hands libraries name owner at → slice_get marks at ≡ Some true)
