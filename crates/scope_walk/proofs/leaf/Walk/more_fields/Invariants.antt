use Rattle.std.proofs.Common.{◌≡◌, ◌++◌, drop}
use Rattle.dart_tree.specs.Lists.{more_variables_of}
use Rattle.scope_declared.specs.UnitDeclared.{more_fields_declares}
use Rattle.scope_walk.specs.Walk.{numbering}
use Rattle.scope_walk.proofs.leaf.Walk.more_fields.Given as goal

-- what was found and what is left to find are all
abbrev pub invariant-loop-variable : goal.invariant-loop-variable
invariant-loop-variable l = l.found.items ++ more_fields_declares (numbering l.fn.self) l.fn.extent l.fn.kind (more_variables_of (drop l.variable-index l.all.items)) ≡ l.fn.found.items ++ more_fields_declares (numbering l.fn.self) l.fn.extent l.fn.kind (more_variables_of l.all.items)
