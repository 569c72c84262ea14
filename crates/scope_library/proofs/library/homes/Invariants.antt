use Rattle.std.proofs.Common.{◌≡◌, ◌++◌, drop, map}
use Rattle.dart_tree.specs.UnitView.{unit}
use Rattle.scope_load.specs.State.{state_of}
use Rattle.scope_library.specs.Library.{homes_from}
use Rattle.scope_library.proofs.library.homes.Given as goal

abbrev pub invariant-loop-at : goal.invariant-loop-at
invariant-loop-at l = l.homes.items ++ homes_from (state_of l.loaded) l.at (map unit (drop l.at l.loaded.units.items))
    ≡ homes_from (state_of l.loaded) 0 (map unit l.loaded.units.items)
