use Rattle.std.proofs.Common.{◌≡◌, drop, map}
use Rattle.dart_tree.specs.Lists.{items_of}
use Rattle.lower_expr.proofs.Rowing.{labels_from}
use Rattle.lower_expr.proofs.list.labels.Given as goal
use Rattle.lower_expr.specs.Behind.{label_names}
use Rattle.lower_leaf.specs.Around.{text}
use Rattle.lower_leaf.specs.Seen.{seen}

abbrev pub invariant-loop-one : goal.invariant-loop-one
invariant-loop-one g l = let a = g.S.Surroundings.around l.outside in
    labels_from (seen a l.state) (drop l.one-index l.all.items) (map (text a) l.names.items)
    ≡ label_names (items_of l.all.items) (seen a l.state)
