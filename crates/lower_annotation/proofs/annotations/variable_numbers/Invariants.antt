use Rattle.std.proofs.Common.{◌≡◌, ◌++◌, map, drop}
use Rattle.lower_annotation.specs.declared.variable.OuterVariable.{OuterVariable}
use Rattle.lower_annotation.proofs.annotations.variable_numbers.Given as goal

abbrev pub invariant-loop-one : goal.invariant-loop-one
invariant-loop-one l = l.made.items ++ map (λ (x : OuterVariable). x.number) (drop l.one-index l.all) ≡ map (λ (x : OuterVariable). x.number) l.all
