use Rattle.std.proofs.Common.{◌≡◌, ◌++◌, drop}
use Rattle.lower_function.specs.Uses.{handlers, handlers_uses}
use Rattle.lower_function.proofs.uses.add_caught.Given as goal

abbrev pub invariant-loop-one : goal.invariant-loop-one
invariant-loop-one g l = let a = g.S.Surroundings.around l.outside in
    l.found.items ++ handlers_uses (handlers a (drop l.one-index l.all.items)) ≡ l.fn.found.items ++ handlers_uses (handlers a l.all.items)
