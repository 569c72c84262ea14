use Rattle.std.proofs.Common.{◌≡◌, drop}
use Rattle.dart_ir.specs.Ty.{tys, named_tys}
use Rattle.core_names.specs.Names.{tys_names, named_tys_names}
use Rattle.core_names.specs.Within.{are_below}
use Rattle.core_names.proofs.types.+naming.Given as goal

abbrev pub invariant-are_types_within-loop-t : goal.invariant-are_types_within-loop-t
invariant-are_types_within-loop-t l =
    are_below l.count (tys_names (tys (drop l.t-index l.types))) ≡ are_below l.count (tys_names (tys l.types))

abbrev pub invariant-are_parameters_within-loop-one : goal.invariant-are_parameters_within-loop-one
invariant-are_parameters_within-loop-one l =
    are_below l.count (named_tys_names (named_tys (drop l.one-index l.parameters))) ≡ are_below l.count (named_tys_names (named_tys l.parameters))
