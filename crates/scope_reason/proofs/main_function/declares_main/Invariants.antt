use Rattle.std.proofs.Common.{◌≡◌, drop, map}
use Rattle.std.specs.List.{list_any}
use Rattle.dart_tree.specs.UnitView.{decl}
use Rattle.scope_reason.specs.Main.{is_main}
use Rattle.scope_reason.proofs.main_function.declares_main.Given as goal

-- the declarations that are left have it or not as all have
abbrev pub invariant-loop-decl : goal.invariant-loop-decl
invariant-loop-decl l =
    list_any (λ x. is_main x.kind) (map decl (drop l.decl-index l.unit.declarations.items)) ≡ list_any (λ x. is_main x.kind) (map decl l.unit.declarations.items)
