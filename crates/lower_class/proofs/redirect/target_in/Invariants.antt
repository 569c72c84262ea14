use Rattle.std.proofs.Common.{◌≡◌, map, drop}
use Rattle.dart_tree.specs.UnitView as unit_view
use Rattle.translation.specs.Classes as cl
use Rattle.lower_class.proofs.redirect.target_in.Given as goal

abbrev pub invariant-loop-one : goal.invariant-loop-one
invariant-loop-one l = cl.target_in (map unit_view.member (drop l.one-index l.members.items)) l.id ≡ cl.target_in (map unit_view.member l.members.items) l.id
