use Rattle.std.proofs.Common.{◌≡◌, ◌++◌, map, drop}
use Rattle.dart_tree.specs.UnitView as unit_view
use Rattle.lower_annotation.specs.Numbered as d
use Rattle.lower_annotation.specs.Seen.{placed}
use Rattle.lower_annotation.proofs.declaration.add_unit.Given as goal

abbrev pub invariant-loop-one : goal.invariant-loop-one
invariant-loop-one l =
    map placed l.made.items ++ map (d.placed l.library) (map unit_view.decl (drop l.one-index l.all))
    ≡ map placed l.initial.made.items ++ map (d.placed l.library) (map unit_view.decl l.all)
