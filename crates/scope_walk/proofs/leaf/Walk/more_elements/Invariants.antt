use Rattle.std.proofs.Common.{◌≡◌, ◌++◌, drop, flat_map}
use Rattle.scope_declared.specs.UnitDeclared.{element_declares}
use Rattle.scope_walk.specs.Walk.{numbering}
use Rattle.scope_walk.proofs.leaf.Walk.more_elements.Given as goal

-- what was found and what is left to find are all
abbrev pub invariant-loop-one : goal.invariant-loop-one
invariant-loop-one l = l.found.items ++ flat_map (element_declares (numbering l.fn.self) l.fn.extent) (drop l.one-index l.all.items) ≡ l.fn.found.items ++ flat_map (element_declares (numbering l.fn.self) l.fn.extent) l.all.items
