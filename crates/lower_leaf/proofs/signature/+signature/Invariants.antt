use Rattle.std.proofs.Common.{◌≡◌, ◌++◌, map, drop}
use Rattle.dart_tree.specs.Lists.{parameter_list_of}
use Rattle.lower_leaf.specs.Around.{types}
use Rattle.lower_leaf.specs.Kept.{named_type}
use Rattle.lower_leaf.specs.Seen.{seen}
use Rattle.lower_leaf.proofs.Signatures.{type_list, name_list}
use Rattle.lower_leaf.proofs.signature.+signature.Given as goal

abbrev pub invariant-parameter_types-loop-one : goal.invariant-parameter_types-loop-one
invariant-parameter_types-loop-one g l = types (g.S.Surroundings.around l.outside) l.made.items
    ++ type_list (seen (g.S.Surroundings.around l.outside) l.state) (parameter_list_of (drop l.one-index l.all.items))
    ≡ type_list (seen (g.S.Surroundings.around l.outside) l.state) (parameter_list_of l.all.items)

abbrev pub invariant-parameter_names-loop-one : goal.invariant-parameter_names-loop-one
invariant-parameter_names-loop-one g l = map (named_type (g.S.Surroundings.around l.outside)) l.made.items
    ++ name_list (seen (g.S.Surroundings.around l.outside) l.state) (parameter_list_of (drop l.one-index l.all.items))
    ≡ name_list (seen (g.S.Surroundings.around l.outside) l.state) (parameter_list_of l.all.items)
