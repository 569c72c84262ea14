use Rattle.std.proofs.Common.{◌≡◌, ◌+◌, map, drop}
use Rattle.dart_tree.specs.UnitView as unit_view
use Rattle.class_source.specs.Members as m
use Rattle.class_reader.proofs.field.field_count.Given as goal

abbrev pub invariant-loop-one : goal.invariant-loop-one
invariant-loop-one l =
    l.count + m.field_count (map unit_view.member (drop l.one-index l.all)) ≡ m.field_count (map unit_view.member l.all)
