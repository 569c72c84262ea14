use Rattle.std.proofs.Common.{◌≡◌, ◌++◌, map, drop}
use Rattle.lower_annotation.specs.Numbered as d
use Rattle.lower_annotation.specs.Seen.{placed, variable}
use Rattle.lower_annotation.proofs.variable.variables_of.Given as goal

abbrev pub invariant-loop-one : goal.invariant-loop-one
invariant-loop-one g l = let number = g.N.Numbers.numbers l.numbers in let a = g.S.Surroundings.around l.outside in
    map variable l.made.items ++ d.variables_of number a (map placed (drop l.one-index l.all)) ≡ d.variables_of number a (map placed l.all)
