use Rattle.std.proofs.Common.{◌≡◌, ◌++◌, drop}
use Rattle.dart_tree.specs.Lists.{parameter_list_of}
use Rattle.lower_leaf.specs.Seen.{seen}
use Rattle.lower_function.specs.Formals.{formal_list, declared_list}
use Rattle.lower_function.proofs.parameter.formal_list.Given as goal

abbrev pub invariant-loop-one : goal.invariant-loop-one
invariant-loop-one g l = let a = g.S.Surroundings.around l.outside in
    formal_list a l.made ++ declared_list (seen a l.state) (parameter_list_of (drop l.one-index l.all.items))
    ≡ declared_list (seen a l.state) (parameter_list_of l.all.items)
