use Rattle.std.proofs.Common.{◌≡◌, map, drop}
use Rattle.std.specs.List.{flat_map}
use Rattle.core_names.specs.Within.{are_below}
use Rattle.class_within.specs.View as view
use Rattle.class_within.specs.Names.{header_type_names}
use Rattle.class_within.proofs.program.are_headers_within.Given as goal

abbrev pub invariant-loop-one : goal.invariant-loop-one
invariant-loop-one l =
    are_below l.count (flat_map header_type_names (map view.header_type (drop l.one-index l.types)))
    ≡ are_below l.count (flat_map header_type_names (map view.header_type l.types))
