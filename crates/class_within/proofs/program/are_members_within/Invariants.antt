use Rattle.std.proofs.Common.{◌≡◌, map, drop}
use Rattle.std.specs.List.{flat_map}
use Rattle.core_names.specs.Within.{are_below}
use Rattle.class_within.specs.View as view
use Rattle.class_within.specs.Names.{member_names}
use Rattle.class_within.proofs.program.are_members_within.Given as goal

abbrev pub invariant-loop-one : goal.invariant-loop-one
invariant-loop-one l =
    are_below l.count (flat_map member_names (map view.member (drop l.one-index l.members)))
    ≡ are_below l.count (flat_map member_names (map view.member l.members))
