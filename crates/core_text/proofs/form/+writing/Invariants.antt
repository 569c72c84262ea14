use Rattle.std.proofs.Common.{◌≡◌, ◌++◌, map, drop}
use Rattle.core_program.specs.Core as c
use Rattle.core_program.specs.View as v
use Rattle.core_text.specs.Form.{cores, handlers, cases}
use Rattle.core_text.proofs.form.+writing.Given as goal

abbrev pub invariant-push_cores-loop-one : goal.invariant-push_cores-loop-one
invariant-push_cores-loop-one l =
    l.bytes ++ cores l.program l.blanks (c.cores (map v.core (drop l.one-index l.cores.items)))
    ≡ l.fn.bytes ++ cores l.program l.blanks (c.cores (map v.core l.cores.items))

abbrev pub invariant-push_handlers-loop-one : goal.invariant-push_handlers-loop-one
invariant-push_handlers-loop-one l =
    l.bytes ++ handlers l.program l.blanks (c.handlers (map v.handler (drop l.one-index l.handlers.items)))
    ≡ l.fn.bytes ++ handlers l.program l.blanks (c.handlers (map v.handler l.handlers.items))

abbrev pub invariant-push_cases-loop-one : goal.invariant-push_cases-loop-one
invariant-push_cases-loop-one l =
    l.bytes ++ cases l.program l.blanks (c.cases (map v.case (drop l.one-index l.cases.items)))
    ≡ l.fn.bytes ++ cases l.program l.blanks (c.cases (map v.case l.cases.items))
