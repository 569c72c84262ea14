use Rattle.std.proofs.Common.{◌≡◌, ◌++◌, drop}
use Rattle.dart_tree.specs.Lists.{tails_of, pieces_of, selectors_of, cascades_of, items_of, entries_of, parameter_list_of, stmts_of, more_variables_of, switch_parts_of, try_parts_of}
use Rattle.scope_declared.specs.TreeDeclared.{tails_declares, pieces_declares, selectors_declares, cascades_declares, items_declares, entries_declares, parameter_list_declares, stmts_declares, more_variables_declares, switch_parts_declares, try_parts_declares}
use Rattle.scope_walk.specs.Walk.{numbering}
use Rattle.scope_walk.proofs.leaf.Walk.+walk.Given as goal

-- what was found and what is left to find are all
abbrev pub invariant-tails-loop-tail : goal.invariant-tails-loop-tail
invariant-tails-loop-tail l = l.found.items ++ tails_declares (numbering l.fn.self) (tails_of (drop l.tail-index l.all.items)) ≡ l.fn.found.items ++ tails_declares (numbering l.fn.self) (tails_of l.all.items)

abbrev pub invariant-pieces-loop-piece : goal.invariant-pieces-loop-piece
invariant-pieces-loop-piece l = l.found.items ++ pieces_declares (numbering l.fn.self) (pieces_of (drop l.piece-index l.all.items)) ≡ l.fn.found.items ++ pieces_declares (numbering l.fn.self) (pieces_of l.all.items)

abbrev pub invariant-selectors-loop-selector : goal.invariant-selectors-loop-selector
invariant-selectors-loop-selector l = l.found.items ++ selectors_declares (numbering l.fn.self) (selectors_of (drop l.selector-index l.all.items)) ≡ l.fn.found.items ++ selectors_declares (numbering l.fn.self) (selectors_of l.all.items)

abbrev pub invariant-cascades-loop-cascade : goal.invariant-cascades-loop-cascade
invariant-cascades-loop-cascade l = l.found.items ++ cascades_declares (numbering l.fn.self) (cascades_of (drop l.cascade-index l.all.items)) ≡ l.fn.found.items ++ cascades_declares (numbering l.fn.self) (cascades_of l.all.items)

abbrev pub invariant-items-loop-item : goal.invariant-items-loop-item
invariant-items-loop-item l = l.found.items ++ items_declares (numbering l.fn.self) (items_of (drop l.item-index l.all.items)) ≡ l.fn.found.items ++ items_declares (numbering l.fn.self) (items_of l.all.items)

abbrev pub invariant-entries-loop-entry : goal.invariant-entries-loop-entry
invariant-entries-loop-entry l = l.found.items ++ entries_declares (numbering l.fn.self) (entries_of (drop l.entry-index l.all.items)) ≡ l.fn.found.items ++ entries_declares (numbering l.fn.self) (entries_of l.all.items)

abbrev pub invariant-parameter_list-loop-parameter : goal.invariant-parameter_list-loop-parameter
invariant-parameter_list-loop-parameter l = l.found.items ++ parameter_list_declares (numbering l.fn.self) l.fn.extent (parameter_list_of (drop l.parameter-index l.all.items)) ≡ l.fn.found.items ++ parameter_list_declares (numbering l.fn.self) l.fn.extent (parameter_list_of l.all.items)

abbrev pub invariant-statements-loop-statement : goal.invariant-statements-loop-statement
invariant-statements-loop-statement l = l.found.items ++ stmts_declares (numbering l.fn.self) l.fn.scope (stmts_of (drop l.statement-index l.all.items)) ≡ l.fn.found.items ++ stmts_declares (numbering l.fn.self) l.fn.scope (stmts_of l.all.items)

abbrev pub invariant-more_variables-loop-variable : goal.invariant-more_variables-loop-variable
invariant-more_variables-loop-variable l = l.found.items ++ more_variables_declares (numbering l.fn.self) l.fn.scope (more_variables_of (drop l.variable-index l.all.items)) ≡ l.fn.found.items ++ more_variables_declares (numbering l.fn.self) l.fn.scope (more_variables_of l.all.items)

abbrev pub invariant-switch_parts-loop-part : goal.invariant-switch_parts-loop-part
invariant-switch_parts-loop-part l = l.found.items ++ switch_parts_declares (numbering l.fn.self) (switch_parts_of (drop l.part-index l.all.items)) ≡ l.fn.found.items ++ switch_parts_declares (numbering l.fn.self) (switch_parts_of l.all.items)

abbrev pub invariant-try_parts-loop-part : goal.invariant-try_parts-loop-part
invariant-try_parts-loop-part l = l.found.items ++ try_parts_declares (numbering l.fn.self) (try_parts_of (drop l.part-index l.all.items)) ≡ l.fn.found.items ++ try_parts_declares (numbering l.fn.self) (try_parts_of l.all.items)
