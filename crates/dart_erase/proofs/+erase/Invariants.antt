use Rattle.std.proofs.Common.{List}
use Rattle.dart_tree.specs.declared.expression.Tail.{Tail}
use Rattle.dart_tree.specs.declared.expression.StringPiece.{StringPiece}
use Rattle.dart_tree.specs.declared.expression.Selector.{Selector}
use Rattle.dart_tree.specs.declared.expression.Cascade.{Cascade}
use Rattle.dart_tree.specs.declared.expression.Item.{Item}
use Rattle.dart_tree.specs.declared.expression.Entry.{Entry}
use Rattle.dart_tree.specs.declared.parameter.Parameter.{Parameter}
use Rattle.dart_tree.specs.declared.parameter.Annotation.{Annotation}
use Rattle.dart_tree.specs.declared.statement.Stmt.{Stmt}
use Rattle.dart_tree.specs.declared.statement.Variable.{Variable}
use Rattle.dart_tree.specs.declared.statement.SwitchPart.{SwitchPart}
use Rattle.dart_tree.specs.declared.statement.TryPart.{TryPart}
use Rattle.dart_tree.specs.Lists.{tails_of, pieces_of, selectors_of, cascades_of, items_of, entries_of, parameter_list_of, metadata_of, stmts_of, more_variables_of, switch_parts_of, try_parts_of}
use Rattle.dart_erase.specs.Erased as erased
use Rattle.dart_node.proofs.Copies.{Done}
use Rattle.dart_erase.proofs.+erase.Given as goal

abbrev pub invariant-expression::erase_tails-loop-tail : goal.invariant-expression::erase_tails-loop-tail
invariant-expression::erase_tails-loop-tail l = Done tails_of (λ (xs : List Tail). erased.tails (tails_of xs)) l.found.items l.tail-index l.all.items

abbrev pub invariant-expression::erase_pieces-loop-piece : goal.invariant-expression::erase_pieces-loop-piece
invariant-expression::erase_pieces-loop-piece l = Done pieces_of (λ (xs : List StringPiece). erased.pieces (pieces_of xs)) l.found.items l.piece-index l.all.items

abbrev pub invariant-expression::erase_selectors-loop-selector : goal.invariant-expression::erase_selectors-loop-selector
invariant-expression::erase_selectors-loop-selector l = Done selectors_of (λ (xs : List Selector). erased.selectors (selectors_of xs)) l.found.items l.selector-index l.all.items

abbrev pub invariant-expression::erase_cascades-loop-cascade : goal.invariant-expression::erase_cascades-loop-cascade
invariant-expression::erase_cascades-loop-cascade l = Done cascades_of (λ (xs : List Cascade). erased.cascades (cascades_of xs)) l.found.items l.cascade-index l.all.items

abbrev pub invariant-expression::erase_items-loop-item : goal.invariant-expression::erase_items-loop-item
invariant-expression::erase_items-loop-item l = Done items_of (λ (xs : List Item). erased.items (items_of xs)) l.found.items l.item-index l.all.items

abbrev pub invariant-expression::erase_entries-loop-entry : goal.invariant-expression::erase_entries-loop-entry
invariant-expression::erase_entries-loop-entry l = Done entries_of (λ (xs : List Entry). erased.entries (entries_of xs)) l.found.items l.entry-index l.all.items

abbrev pub invariant-statement::erase_parameter_list-loop-parameter : goal.invariant-statement::erase_parameter_list-loop-parameter
invariant-statement::erase_parameter_list-loop-parameter l = Done parameter_list_of (λ (xs : List Parameter). erased.parameter_list (parameter_list_of xs)) l.found.items l.parameter-index l.all.items

abbrev pub invariant-statement::erase_metadata-loop-annotation : goal.invariant-statement::erase_metadata-loop-annotation
invariant-statement::erase_metadata-loop-annotation l = Done metadata_of (λ (xs : List Annotation). erased.metadata (metadata_of xs)) l.found.items l.annotation-index l.all.items

abbrev pub invariant-statement::erase_stmts-loop-statement : goal.invariant-statement::erase_stmts-loop-statement
invariant-statement::erase_stmts-loop-statement l = Done stmts_of (λ (xs : List Stmt). erased.stmts (stmts_of xs)) l.found.items l.statement-index l.all.items

abbrev pub invariant-statement::erase_more_variables-loop-variable : goal.invariant-statement::erase_more_variables-loop-variable
invariant-statement::erase_more_variables-loop-variable l = Done more_variables_of (λ (xs : List Variable). erased.more_variables (more_variables_of xs)) l.found.items l.variable-index l.all.items

abbrev pub invariant-statement::erase_switch_parts-loop-part : goal.invariant-statement::erase_switch_parts-loop-part
invariant-statement::erase_switch_parts-loop-part l = Done switch_parts_of (λ (xs : List SwitchPart). erased.switch_parts (switch_parts_of xs)) l.found.items l.part-index l.all.items

abbrev pub invariant-statement::erase_try_parts-loop-part : goal.invariant-statement::erase_try_parts-loop-part
invariant-statement::erase_try_parts-loop-part l = Done try_parts_of (λ (xs : List TryPart). erased.try_parts (try_parts_of xs)) l.found.items l.part-index l.all.items
