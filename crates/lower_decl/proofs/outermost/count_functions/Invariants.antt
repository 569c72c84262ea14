use Rattle.std.proofs.Common.{◌≡◌, ◌++◌, map, take, drop}
use Rattle.lower_decl.specs.Standings.{with_count}
use Rattle.lower_decl.proofs.outermost.count_functions.Given as goal

abbrev pub invariant-loop-i : goal.invariant-loop-i
invariant-loop-i l = take l.i l.functions.items ++ map (with_count l.count) (drop l.i l.functions.items)
    ≡ take l.fn.first l.initial.functions.items ++ map (with_count l.count) (drop l.fn.first l.initial.functions.items)
