use Rattle.std.proofs.Common.{◌≡◌, ◌++◌, map, drop}
use Rattle.dart_tree.specs.Lists.{more_variables_of}
use Rattle.dart_tree.specs.View as view
use Rattle.lower_annotation.specs.Numbered as d
use Rattle.lower_annotation.specs.Seen.{variable}
use Rattle.lower_annotation.proofs.variable.add_more.Given as goal

abbrev pub invariant-loop-one : goal.invariant-loop-one
invariant-loop-one g l = let number = g.N.Numbers.numbers l.numbers in
    map variable l.made.items ++ d.more_named number l.outer (view.variable_kind l.kind) (more_variables_of (drop l.one-index l.all.items))
    ≡ map variable l.initial.made.items ++ d.more_named number l.outer (view.variable_kind l.kind) (more_variables_of l.all.items)
