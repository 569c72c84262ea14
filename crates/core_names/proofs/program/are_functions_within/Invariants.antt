use Rattle.std.proofs.Common.{◌≡◌, map, drop}
use Rattle.std.specs.List.{flat_map}
use Rattle.core_program.specs.ProgramView as pv
use Rattle.core_names.specs.Names.{function_names}
use Rattle.core_names.specs.Within.{are_below}
use Rattle.core_names.proofs.program.are_functions_within.Given as goal

abbrev pub invariant-loop-one : goal.invariant-loop-one
invariant-loop-one l =
    are_below l.count (flat_map function_names (map pv.function (drop l.one-index l.functions))) ≡ are_below l.count (flat_map function_names (map pv.function l.functions))
