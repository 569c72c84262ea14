use Rattle.std.proofs.Common.{◌≡◌, map, drop}
use Rattle.dart_tree.specs.UnitView as unit_view
use Rattle.translation.specs.Classes as cl
use Rattle.lower_leaf.specs.Seen.{seen}
use Rattle.lower_class.proofs.Fields.{members_behind}
use Rattle.lower_class.proofs.field.own_fields.Given as goal

abbrev pub invariant-loop-one : goal.invariant-loop-one
invariant-loop-one g l = let a = g.S.Surroundings.around l.outside in
    members_behind a (seen a l.state) l.first l.found.items (drop l.one-index l.members.items)
    ≡ cl.own_fields (seen a l.state) l.first (map unit_view.member l.members.items)
