use Rattle.std.proofs.Common.{◌≡◌, map, drop}
use Rattle.std.specs.List.{flat_map}
use Rattle.core_program.specs.ProgramView as pv
use Rattle.core_names.specs.Names.{site_names}
use Rattle.core_names.specs.Within.{are_below}
use Rattle.core_names.proofs.program.are_sites_within.Given as goal

abbrev pub invariant-loop-one : goal.invariant-loop-one
invariant-loop-one l =
    are_below l.count (flat_map site_names (map pv.site (drop l.one-index l.sites))) ≡ are_below l.count (flat_map site_names (map pv.site l.sites))
