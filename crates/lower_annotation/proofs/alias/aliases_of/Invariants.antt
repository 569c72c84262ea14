use Rattle.std.proofs.Common.{◌≡◌, ◌++◌, map, drop}
use Rattle.lower_annotation.specs.Numbered as d
use Rattle.lower_annotation.specs.Seen.{alias, placed}
use Rattle.lower_annotation.proofs.alias.aliases_of.Given as goal

abbrev pub invariant-loop-one : goal.invariant-loop-one
invariant-loop-one g l = let number = g.N.Numbers.numbers l.numbers in
    map alias l.made.items ++ d.aliases_of number (map placed (drop l.one-index l.all)) ≡ d.aliases_of number (map placed l.all)
