use Rattle.std.proofs.Common.{◌≡◌, ◌++◌, drop, map, flat_map}
use Rattle.dart_tree.specs.UnitView as uv
use Rattle.scope_declared.specs.UnitDeclared.{decl_declares}
use Rattle.scope_walk.specs.Walk.{numbering}
use Rattle.scope_walk.proofs.leaf.Walk.decls.Given as goal

-- what was found and what is left to find are all
abbrev pub invariant-loop-one : goal.invariant-loop-one
invariant-loop-one l = l.found.items ++ flat_map (decl_declares (numbering l.fn.self) l.fn.extent) (map uv.decl (drop l.one-index l.all.items)) ≡ l.fn.found.items ++ flat_map (decl_declares (numbering l.fn.self) l.fn.extent) (map uv.decl l.all.items)
