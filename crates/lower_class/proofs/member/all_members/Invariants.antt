use Rattle.std.proofs.Common.{◌≡◌, map, drop}
use Rattle.dart_tree.specs.UnitView as unit_view
use Rattle.translation.specs.Classes as cl
use Rattle.lower_leaf.specs.Seen.{seen}
use Rattle.lower_class.specs.Views.{class_around, parts}
use Rattle.lower_class.proofs.Walking.{behind}
use Rattle.lower_class.proofs.member.all_members.Given as goal

abbrev pub invariant-loop-one : goal.invariant-loop-one
invariant-loop-one g l = let a = g.S.Surroundings.around l.outside in
    let ms = map unit_view.member l.members.items in
    behind cl.with_parts (parts a l.found) (cl.all_members (class_around a l.around) ms (map unit_view.member (drop l.one-index l.members.items)) (seen a l.state))
    ≡ cl.all_members (class_around a l.around) ms ms (seen a l.fn.state)
