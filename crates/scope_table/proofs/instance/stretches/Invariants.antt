use Rattle.std.proofs.Common.{◌≡◌, ◌++◌, drop, map, flat_map}
use Rattle.dart_tree.specs.UnitView as uv
use Rattle.scope_table.specs.Instance.{decl_stretches}
use Rattle.scope_table.proofs.instance.stretches.Given as goal

-- what was found and what is left to find are all
abbrev pub invariant-loop-one : goal.invariant-loop-one
invariant-loop-one l = l.found.items ++ flat_map decl_stretches (map uv.decl (drop l.one-index l.unit.declarations.items)) ≡ flat_map decl_stretches (map uv.decl l.unit.declarations.items)
