use Rattle.std.proofs.Common.{◌≡◌, ◌++◌, map, drop}
use Rattle.dart_tree.specs.UnitView as unit_view
use Rattle.lower_leaf.specs.Seen.{seen}
use Rattle.class_reader.specs.Seen.{all_members, members_in}
use Rattle.class_reader.proofs.member.instance_members.Given as goal

abbrev pub invariant-loop-one : goal.invariant-loop-one
invariant-loop-one g l = let a = g.S.Surroundings.around l.outside in let number = g.P.Positions.numbers l.positions in
    all_members a l.found ++ members_in number (seen a l.state) (map unit_view.member (drop l.one-index l.all))
    ≡ members_in number (seen a l.state) (map unit_view.member l.all)
