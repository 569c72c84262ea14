use Rattle.std.proofs.Common.{◌≡◌, map, drop}
use Rattle.std.specs.List.{flat_map}
use Rattle.core_program.specs.ProgramView as pv
use Rattle.core_names.specs.Names.{ty_option_names}
use Rattle.core_names.specs.Within.{are_below}
use Rattle.core_names.proofs.types.are_bounds_within.Given as goal

abbrev pub invariant-loop-one : goal.invariant-loop-one
invariant-loop-one l =
    are_below l.count (flat_map ty_option_names (map pv.ty_option (drop l.one-index l.bounds))) ≡ are_below l.count (flat_map ty_option_names (map pv.ty_option l.bounds))
