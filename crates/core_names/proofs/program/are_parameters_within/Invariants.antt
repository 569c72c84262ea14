use Rattle.std.proofs.Common.{◌≡◌, map, drop}
use Rattle.std.specs.List.{flat_map}
use Rattle.core_program.specs.ProgramView as pv
use Rattle.core_names.specs.Names.{parameter_names}
use Rattle.core_names.specs.Within.{are_below}
use Rattle.core_names.proofs.program.are_parameters_within.Given as goal

abbrev pub invariant-loop-one : goal.invariant-loop-one
invariant-loop-one l =
    are_below l.count (flat_map parameter_names (map pv.parameter (drop l.one-index l.parameters))) ≡ are_below l.count (flat_map parameter_names (map pv.parameter l.parameters))
