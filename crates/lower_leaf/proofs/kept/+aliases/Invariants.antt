use Rattle.std.proofs.Common.{◌≡◌, drop}
use Rattle.dart_tree.specs.Lists.{type_list_of}
use Rattle.translation.specs.Types as y
use Rattle.lower_leaf.specs.Seen.{seen}
use Rattle.lower_leaf.proofs.kept.+aliases.Given as goal

abbrev pub invariant-alias_in_list-loop-one : goal.invariant-alias_in_list-loop-one
invariant-alias_in_list-loop-one g l = y.alias_in_list (seen (g.S.Surroundings.around l.outside) l.state) (type_list_of (drop l.one-index l.all.items))
    ≡ y.alias_in_list (seen (g.S.Surroundings.around l.outside) l.state) (type_list_of l.all.items)
