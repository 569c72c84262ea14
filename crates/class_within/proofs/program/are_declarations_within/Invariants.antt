use Rattle.std.proofs.Common.{◌≡◌, map, drop}
use Rattle.std.specs.List.{flat_map}
use Rattle.core_names.specs.Within.{are_below}
use Rattle.class_within.specs.View as view
use Rattle.class_within.specs.Names.{class_names}
use Rattle.class_within.proofs.program.are_declarations_within.Given as goal

abbrev pub invariant-loop-one : goal.invariant-loop-one
invariant-loop-one l =
    are_below l.count (flat_map class_names (map view.class (drop l.one-index l.declarations)))
    ≡ are_below l.count (flat_map class_names (map view.class l.declarations))
