use Rattle.std.proofs.Common.{◌≡◌, ◌++◌, map, drop}
use Rattle.lower_annotation.specs.declared.alias.Alias.{Alias}
use Rattle.lower_annotation.proofs.annotations.alias_numbers.Given as goal

abbrev pub invariant-loop-one : goal.invariant-loop-one
invariant-loop-one l = l.made.items ++ map (λ (x : Alias). x.number) (drop l.one-index l.all) ≡ map (λ (x : Alias). x.number) l.all
