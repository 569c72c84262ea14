use Rattle.std.proofs.Common.{◌≡◌, ◌++◌, drop, map}
use Rattle.dart_tree.specs.UnitView as uv
use Rattle.scope_declared.specs.UnitDeclared.{type_parameter_list_declares}
use Rattle.scope_walk.specs.Walk.{numbering}
use Rattle.scope_walk.proofs.leaf.Walk.type_parameter_list.Given as goal

-- what was found and what is left to find are all
abbrev pub invariant-loop-at : goal.invariant-loop-at
invariant-loop-at l = l.found.items ++ type_parameter_list_declares (numbering l.fn.self) l.fn.extent l.at (map uv.type_parameter (drop l.at l.all.items)) ≡ l.fn.found.items ++ type_parameter_list_declares (numbering l.fn.self) l.fn.extent 0 (map uv.type_parameter l.all.items)
