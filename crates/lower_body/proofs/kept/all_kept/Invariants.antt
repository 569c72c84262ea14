use Rattle.std.proofs.Common.{◌≡◌, drop}
use Rattle.dart_tree.specs.Lists.{type_list_of}
use Rattle.translation.specs.ClassBodies as b
use Rattle.lower_leaf.specs.Seen.{seen}
use Rattle.lower_body.proofs.kept.all_kept.Given as goal

abbrev pub invariant-loop-one : goal.invariant-loop-one
invariant-loop-one g l = let a = g.S.Surroundings.around l.outside in
    b.all_kept (type_list_of (drop l.one-index l.all.items)) (seen a l.state) ≡ b.all_kept (type_list_of l.all.items) (seen a l.state)
