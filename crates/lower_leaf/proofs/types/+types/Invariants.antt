use Rattle.std.proofs.Common.{◌≡◌, ◌++◌, drop}
use Rattle.dart_tree.specs.Lists.{type_list_of}
use Rattle.translation.specs.Types as y
use Rattle.lower_leaf.specs.Around.{types}
use Rattle.lower_leaf.specs.Kept.{aliases_of}
use Rattle.lower_leaf.specs.Seen.{seen}
use Rattle.lower_leaf.proofs.types.+types.Given as goal

abbrev pub invariant-type_list-loop-one : goal.invariant-type_list-loop-one
invariant-type_list-loop-one g l = types (g.S.Surroundings.around l.outside) l.made.items
    ++ y.type_list (aliases_of (g.S.Surroundings.around l.outside) l.aliases) (seen (g.S.Surroundings.around l.outside) l.state) (type_list_of (drop l.one-index l.all.items))
    ≡ y.type_list (aliases_of (g.S.Surroundings.around l.outside) l.aliases) (seen (g.S.Surroundings.around l.outside) l.state) (type_list_of l.all.items)
