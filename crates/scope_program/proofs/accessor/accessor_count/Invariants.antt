use Rattle.std.proofs.Common.{◌≡◌, ◌+◌, map, drop}
use Rattle.dart_tree.specs.UnitView as unit_view
use Rattle.scope_program.specs.Classes.{accessor_count}
use Rattle.scope_program.proofs.accessor.accessor_count.Given as goal

abbrev pub invariant-loop-member : goal.invariant-loop-member
invariant-loop-member l =
    l.count + accessor_count (map unit_view.member (drop l.member-index l.members)) ≡ accessor_count (map unit_view.member l.members)
