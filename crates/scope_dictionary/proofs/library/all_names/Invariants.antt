use Rattle.std.proofs.Common.{◌≡◌, ℕ, length, slice_get, Some}
use Rattle.scope_outer.specs.Outside.{scopes_of}
use Rattle.scope_dictionary.specs.Names.{AreNames, names_of}
use Rattle.scope_dictionary.specs.declared.library.LibraryNames.{LibraryNames}
use Rattle.scope_dictionary.proofs.library.all_names.Given as goal

-- the names of the first libraries
abbrev pub invariant-loop-library : goal.invariant-loop-library
invariant-loop-library l = record {
  count : length l.made.items ≡ l.library;
  each : (library : ℕ) (made : LibraryNames) → slice_get l.made.items library ≡ Some made → AreNames l.names (scopes_of l.scopes) library (names_of made);
}
