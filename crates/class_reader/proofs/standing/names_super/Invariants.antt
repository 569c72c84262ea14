use Rattle.std.proofs.Common.{◌≡◌, map, drop}
use Rattle.std.specs.List.{list_any}
use Rattle.dart_tree.specs.UnitView as unit_view
use Rattle.class_source.specs.Members as m
use Rattle.class_reader.proofs.standing.names_super.Given as goal

abbrev pub invariant-loop-member : goal.invariant-loop-member
invariant-loop-member l =
    list_any m.names_super (map unit_view.member (drop l.member-index l.members)) ≡ list_any m.names_super (map unit_view.member l.members)
