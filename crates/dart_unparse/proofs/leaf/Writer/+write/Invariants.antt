use Rattle.std.proofs.Common.{◌≡◌, ◌++◌, drop}
use Rattle.dart_tree.specs.Tokens.{tails_tokens, pieces_tokens, selectors_tokens, cascades_tokens, items_tokens, entries_tokens, parameter_list_tokens, metadata_tokens, stmts_tokens, more_variables_tokens, switch_parts_tokens, try_parts_tokens}
use Rattle.dart_tree.specs.Lists.{tails_of, pieces_of, selectors_of, cascades_of, items_of, entries_of, parameter_list_of, metadata_of, stmts_of, more_variables_of, switch_parts_of, try_parts_of}
use Rattle.dart_unparse.proofs.leaf.Writer.+write.Given as goal

-- what was written and what is left to write are all
abbrev pub invariant-tails-loop-tail : goal.invariant-tails-loop-tail
invariant-tails-loop-tail l = l.self.tokens.items ++ tails_tokens (tails_of (drop l.tail-index l.all.items)) ≡ l.fn.self.tokens.items ++ tails_tokens (tails_of l.all.items)

abbrev pub invariant-pieces-loop-piece : goal.invariant-pieces-loop-piece
invariant-pieces-loop-piece l = l.self.tokens.items ++ pieces_tokens (pieces_of (drop l.piece-index l.all.items)) ≡ l.fn.self.tokens.items ++ pieces_tokens (pieces_of l.all.items)

abbrev pub invariant-selectors-loop-selector : goal.invariant-selectors-loop-selector
invariant-selectors-loop-selector l = l.self.tokens.items ++ selectors_tokens (selectors_of (drop l.selector-index l.all.items)) ≡ l.fn.self.tokens.items ++ selectors_tokens (selectors_of l.all.items)

abbrev pub invariant-cascades-loop-cascade : goal.invariant-cascades-loop-cascade
invariant-cascades-loop-cascade l = l.self.tokens.items ++ cascades_tokens (cascades_of (drop l.cascade-index l.all.items)) ≡ l.fn.self.tokens.items ++ cascades_tokens (cascades_of l.all.items)

abbrev pub invariant-items-loop-item : goal.invariant-items-loop-item
invariant-items-loop-item l = l.self.tokens.items ++ items_tokens (items_of (drop l.item-index l.all.items)) ≡ l.fn.self.tokens.items ++ items_tokens (items_of l.all.items)

abbrev pub invariant-entries-loop-entry : goal.invariant-entries-loop-entry
invariant-entries-loop-entry l = l.self.tokens.items ++ entries_tokens (entries_of (drop l.entry-index l.all.items)) ≡ l.fn.self.tokens.items ++ entries_tokens (entries_of l.all.items)

abbrev pub invariant-parameter_list-loop-parameter : goal.invariant-parameter_list-loop-parameter
invariant-parameter_list-loop-parameter l = l.self.tokens.items ++ parameter_list_tokens (parameter_list_of (drop l.parameter-index l.all.items)) ≡ l.fn.self.tokens.items ++ parameter_list_tokens (parameter_list_of l.all.items)

abbrev pub invariant-metadata-loop-annotation : goal.invariant-metadata-loop-annotation
invariant-metadata-loop-annotation l = l.self.tokens.items ++ metadata_tokens (metadata_of (drop l.annotation-index l.all.items)) ≡ l.fn.self.tokens.items ++ metadata_tokens (metadata_of l.all.items)

abbrev pub invariant-statements-loop-statement : goal.invariant-statements-loop-statement
invariant-statements-loop-statement l = l.self.tokens.items ++ stmts_tokens (stmts_of (drop l.statement-index l.all.items)) ≡ l.fn.self.tokens.items ++ stmts_tokens (stmts_of l.all.items)

abbrev pub invariant-more_variables-loop-variable : goal.invariant-more_variables-loop-variable
invariant-more_variables-loop-variable l = l.self.tokens.items ++ more_variables_tokens (more_variables_of (drop l.variable-index l.all.items)) ≡ l.fn.self.tokens.items ++ more_variables_tokens (more_variables_of l.all.items)

abbrev pub invariant-switch_parts-loop-part : goal.invariant-switch_parts-loop-part
invariant-switch_parts-loop-part l = l.self.tokens.items ++ switch_parts_tokens (switch_parts_of (drop l.part-index l.all.items)) ≡ l.fn.self.tokens.items ++ switch_parts_tokens (switch_parts_of l.all.items)

abbrev pub invariant-try_parts-loop-part : goal.invariant-try_parts-loop-part
invariant-try_parts-loop-part l = l.self.tokens.items ++ try_parts_tokens (try_parts_of (drop l.part-index l.all.items)) ≡ l.fn.self.tokens.items ++ try_parts_tokens (try_parts_of l.all.items)
