use Rattle.std.proofs.Common.{◌≡◌, map, drop}
use Rattle.std.specs.List.{list_any}
use Rattle.core_program.specs.Core as c
use Rattle.core_program.specs.View as v
use Rattle.core_program.specs.ProgramView.{function}
use Rattle.core_program.specs.Captured.{cores_nodes, handlers_nodes, cases_nodes}
use Rattle.core_program.specs.Seeking.{seeks}
use Rattle.core_program.proofs.captured.+seeking.Given as goal

abbrev pub invariant-is_in_cores-loop-one : goal.invariant-is_in_cores-loop-one
invariant-is_in_cores-loop-one l =
    list_any (seeks (map function l.functions) l.wanted) (cores_nodes (c.cores (map v.core (drop l.one-index l.cores))))
    ≡ list_any (seeks (map function l.functions) l.wanted) (cores_nodes (c.cores (map v.core l.cores)))

abbrev pub invariant-is_in_handlers-loop-one : goal.invariant-is_in_handlers-loop-one
invariant-is_in_handlers-loop-one l =
    list_any (seeks (map function l.functions) l.wanted) (handlers_nodes (c.handlers (map v.handler (drop l.one-index l.handlers))))
    ≡ list_any (seeks (map function l.functions) l.wanted) (handlers_nodes (c.handlers (map v.handler l.handlers)))

abbrev pub invariant-is_in_cases-loop-one : goal.invariant-is_in_cases-loop-one
invariant-is_in_cases-loop-one l =
    list_any (seeks (map function l.functions) l.wanted) (cases_nodes (c.cases (map v.case (drop l.one-index l.cases))))
    ≡ list_any (seeks (map function l.functions) l.wanted) (cases_nodes (c.cases (map v.case l.cases)))
