use Rattle.std.proofs.Common.{◌≡◌, map, drop}
use Rattle.std.specs.List.{flat_map}
use Rattle.core_program.specs.ProgramView as pv
use Rattle.core_names.specs.Names.{static_names}
use Rattle.core_names.specs.Within.{are_below}
use Rattle.core_names.proofs.program.are_statics_within.Given as goal

abbrev pub invariant-loop-one : goal.invariant-loop-one
invariant-loop-one l =
    are_below l.count (flat_map static_names (map pv.static (drop l.one-index l.statics))) ≡ are_below l.count (flat_map static_names (map pv.static l.statics))
