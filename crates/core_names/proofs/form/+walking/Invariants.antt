use Rattle.std.proofs.Common.{◌≡◌, map, drop}
use Rattle.core_program.specs.Core as c
use Rattle.core_program.specs.View as v
use Rattle.core_names.specs.Names.{cores_names, handlers_names, cases_names}
use Rattle.core_names.specs.Within.{are_below}
use Rattle.core_names.proofs.form.+walking.Given as goal

abbrev pub invariant-are_cores_within-loop-one : goal.invariant-are_cores_within-loop-one
invariant-are_cores_within-loop-one l =
    are_below l.count (cores_names (c.cores (map v.core (drop l.one-index l.cores))))
    ≡ are_below l.count (cores_names (c.cores (map v.core l.cores)))

abbrev pub invariant-are_handlers_within-loop-one : goal.invariant-are_handlers_within-loop-one
invariant-are_handlers_within-loop-one l =
    are_below l.count (handlers_names (c.handlers (map v.handler (drop l.one-index l.handlers))))
    ≡ are_below l.count (handlers_names (c.handlers (map v.handler l.handlers)))

abbrev pub invariant-are_cases_within-loop-one : goal.invariant-are_cases_within-loop-one
invariant-are_cases_within-loop-one l =
    are_below l.count (cases_names (c.cases (map v.case (drop l.one-index l.cases))))
    ≡ are_below l.count (cases_names (c.cases (map v.case l.cases)))
