use Rattle.std.proofs.Common.{◌≡◌, ◌++◌, drop, map, flat_map}
use Rattle.dart_tree.specs.UnitView as uv
use Rattle.dart_tree.specs.Unit.{Decl}
use Rattle.scope_entry.specs.Kinds.{decl_kinds}
use Rattle.scope_entry.proofs.kind.add_unit.Given as goal

-- the kinds so far and those that are left are all
abbrev pub invariant-loop-declaration : goal.invariant-loop-declaration
invariant-loop-declaration l = l.kinds.items ++ flat_map (λ (d : Decl). decl_kinds d.kind) (map uv.decl (drop l.declaration-index l.unit.declarations.items))
    ≡ l.fn.kinds.items ++ flat_map (λ (d : Decl). decl_kinds d.kind) (map uv.decl l.unit.declarations.items)
