use Rattle.std.proofs.Common.{◌≡◌, ◌++◌, drop}
use Rattle.core_program.specs.Captured.{cores_nodes, handlers_nodes, cases_nodes}
use Rattle.core_program.specs.Core as c
use Rattle.lower_leaf.specs.Forms.{cores}
use Rattle.lower_function.specs.Uses.{functions_of, uses_in, handlers, cases}
use Rattle.lower_function.proofs.uses.+uses.Given as goal

abbrev pub invariant-add_cores-loop-one : goal.invariant-add_cores-loop-one
invariant-add_cores-loop-one g l = let a = g.S.Surroundings.around l.outside in
    l.found.items ++ uses_in (functions_of a l.functions) (cores_nodes (c.cores (cores a (drop l.one-index l.all.items))))
    ≡ l.fn.found.items ++ uses_in (functions_of a l.functions) (cores_nodes (c.cores (cores a l.all.items)))

abbrev pub invariant-add_handlers-loop-one : goal.invariant-add_handlers-loop-one
invariant-add_handlers-loop-one g l = let a = g.S.Surroundings.around l.outside in
    l.found.items ++ uses_in (functions_of a l.functions) (handlers_nodes (handlers a (drop l.one-index l.all.items)))
    ≡ l.fn.found.items ++ uses_in (functions_of a l.functions) (handlers_nodes (handlers a l.all.items))

abbrev pub invariant-add_cases-loop-one : goal.invariant-add_cases-loop-one
invariant-add_cases-loop-one g l = let a = g.S.Surroundings.around l.outside in
    l.found.items ++ uses_in (functions_of a l.functions) (cases_nodes (cases a (drop l.one-index l.all.items)))
    ≡ l.fn.found.items ++ uses_in (functions_of a l.functions) (cases_nodes (cases a l.all.items))
