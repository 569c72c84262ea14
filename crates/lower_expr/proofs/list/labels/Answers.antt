use Rattle.std.proofs.Common.{map, ◌∙◌, ap, List, drop, ◌+◌}
use Rattle.dart_tree.specs.Lists.{items_of}
use Rattle.lower_expr.proofs.Rowing.{labels_from, label_next}
use Rattle.lower_expr.proofs.list.labels.Goals as goal
use Rattle.lower_expr.specs.Behind.{label_names}
use Rattle.lower_leaf.specs.Around.{text}
use Rattle.lower_leaf.specs.Seen.{seen}
use Rattle.translation.specs.Surroundings.{Text}

pub loop-one-preserved : goal.loop-one-preserved
loop-one-preserved g c = let a = g.S.Surroundings.around c.args.outside.now in
    ap (λ (l : List Text). labels_from (seen a c.args.state.now) (drop (c.loop-one.one-index + 1) c.args.all.now.items) l) c.in_ok-add_label.ensures
    ∙ label_next (seen a c.args.state.now) c.args.all.now.items c.deref-one-items.result.now c.loop-one.one-index c.one-item.result (map (text a) c.loop-one.names.items)
    (label_names (items_of c.args.all.now.items) (seen a c.args.state.now))
    c.deref-one-items.ensures.value c.loop-one-test.true c.one-item.is c.loop-one.invariant
