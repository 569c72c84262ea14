use Rattle.std.proofs.Common.{◌≡◌, map, drop}
use Rattle.dart_tree.specs.UnitView as unit_view
use Rattle.translation.specs.MemberNames as member_names
use Rattle.lower_program.proofs.member_name.of_declarations.Given as goal

abbrev pub invariant-loop-one : goal.invariant-loop-one
invariant-loop-one l = member_names.of_declarations (map unit_view.decl (drop l.one-index l.all.items))
    ≡ member_names.of_declarations (map unit_view.decl l.all.items)
