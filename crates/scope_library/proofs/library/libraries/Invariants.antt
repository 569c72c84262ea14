use Rattle.std.proofs.Common.{◌≡◌, ◌++◌, drop, map}
use Rattle.dart_tree.specs.UnitView.{unit}
use Rattle.scope_load.specs.State.{state_of}
use Rattle.scope_library.specs.Library.{libraries_from, library_is}
use Rattle.scope_library.proofs.library.libraries.Given as goal

-- the libraries so far and those of the units that are left are all
abbrev pub invariant-loop-at : goal.invariant-loop-at
invariant-loop-at l = map library_is l.libraries.items ++ libraries_from (state_of l.loaded) l.at (map unit (drop l.at l.loaded.units.items))
    ≡ libraries_from (state_of l.loaded) 0 (map unit l.loaded.units.items)
