use Rattle.std.proofs.Common.{◌∙◌, ap, sym, refl, List, ◌++◌}
use Rattle.dart_tree.specs.declared.expression.Tail.{Tail}
use Rattle.dart_tree.specs.declared.expression.StringPiece.{StringPiece}
use Rattle.dart_tree.specs.declared.expression.Selector.{Selector}
use Rattle.dart_tree.specs.declared.expression.Cascade.{Cascade}
use Rattle.dart_tree.specs.declared.expression.Item.{Item}
use Rattle.dart_tree.specs.declared.expression.Entry.{Entry}
use Rattle.dart_tree.specs.declared.parameter.Parameter.{Parameter}
use Rattle.dart_tree.specs.declared.parameter.Annotation.{Annotation}
use Rattle.dart_tree.specs.declared.statement.Stmt.{Stmt}
use Rattle.dart_tree.specs.declared.statement.Variable.{Variable}
use Rattle.dart_tree.specs.declared.statement.SwitchPart.{SwitchPart}
use Rattle.dart_tree.specs.declared.statement.TryPart.{TryPart}
use Rattle.dart_tree.specs.declared.expression.Expr.{Expr}
use Rattle.dart_tree.specs.declared.expression.Operand.{Operand}
use Rattle.dart_tree.specs.declared.expression.Primary.{Primary}
use Rattle.dart_tree.specs.declared.expression.Value.{Value}
use Rattle.dart_tree.specs.declared.statement.Loop.{Loop}
use Rattle.dart_tree.specs.declared.statement.Body.{Body}
use Rattle.dart_erase.specs.Erased as erased
use Rattle.dart_tree.specs.View as view
use Rattle.dart_tree.specs.Lists.{tails_of, pieces_of, selectors_of, cascades_of, items_of, entries_of, parameter_list_of, metadata_of, stmts_of, more_variables_of, switch_parts_of, try_parts_of}
use Rattle.dart_tree.proofs.Rows.{view_atom, view_bare_super, view_call, view_expression_stmt, view_jump, view_member, view_no_body, view_omitted, view_primary, view_return_stmt, view_variables_stmt}
use Rattle.dart_node.proofs.Copies.{become, turn, over}
use Rattle.dart_erase.proofs.Erasing.{each_cascades, each_entries, each_items, each_metadata, each_more_variables, each_parameter_list, each_pieces, each_selectors, each_stmts, each_switch_parts, each_tails, each_try_parts, erasing_arrow_body, erasing_as_type, erasing_assign, erasing_atom, erasing_bare_super, erasing_binary, erasing_block_body, erasing_block_stmt, erasing_call, erasing_conditional, erasing_do_loop, erasing_expression_stmt, erasing_for_in, erasing_for_loop, erasing_for_variables, erasing_function_literal, erasing_function_stmt, erasing_given, erasing_if_else, erasing_if_stmt, erasing_index, erasing_is_type, erasing_jump, erasing_labelled, erasing_list_literal, erasing_loop, erasing_map_literal, erasing_member, erasing_new_object, erasing_no_body, erasing_omitted, erasing_parenthesized, erasing_plain, erasing_postfix, erasing_prefix, erasing_primary, erasing_return_stmt, erasing_super_access, erasing_switch_stmt, erasing_text, erasing_the_annotation, erasing_the_arguments, erasing_the_block, erasing_the_function, erasing_the_parameter, erasing_the_parameters, erasing_the_variables, erasing_throw, erasing_try_stmt, erasing_variables_stmt, erasing_while_loop, none_cascades, none_entries, none_items, none_metadata, none_more_variables, none_parameter_list, none_pieces, none_selectors, none_stmts, none_switch_parts, none_tails, none_try_parts}
use Rattle.dart_erase.proofs.+erase.Goals as goal

pub expression::erase_expr-returns-in_ok-value-in-Assign : goal.expression::erase_expr-returns-in_ok-value-in-Assign
expression::erase_expr-returns-in_ok-value-in-Assign t c = become view.expr c.assign.result c.assign.ensures (rw (c.in_ok-target-in-Assign.ensures, c.in_ok-value-in-Assign.ensures, c.deref.ensures) refl ∙ sym (ap (λ (x : Expr). erased.expr (view.expr x)) c.in-Assign.is ∙ erasing_assign c.in-Assign.target c.in-Assign.operator c.in-Assign.value))

pub expression::erase_expr-returns-in_ok-cascades-in-Plain : goal.expression::erase_expr-returns-in_ok-cascades-in-Plain
expression::erase_expr-returns-in_ok-cascades-in-Plain t c = c.plain.ensures ∙ rw (c.in_ok-operand-in-Plain.ensures, c.in_ok-cascades-in-Plain.ensures) refl ∙ sym (ap (λ (x : Expr). erased.expr (view.expr x)) c.in-Plain.is ∙ erasing_plain c.in-Plain.operand c.in-Plain.cascades)

pub expression::erase_expr-returns-in_ok-value-in-Throw : goal.expression::erase_expr-returns-in_ok-value-in-Throw
expression::erase_expr-returns-in_ok-value-in-Throw t c = become view.expr c.throw.result c.throw.ensures (rw (c.in_ok-value-in-Throw.ensures, c.deref-in-Throw.ensures) refl ∙ sym (ap (λ (x : Expr). erased.expr (view.expr x)) c.in-Throw.is ∙ erasing_throw c.in-Throw.word c.in-Throw.value))

pub expression::erase_operand-returns-in_ok-second-in-Conditional : goal.expression::erase_operand-returns-in_ok-second-in-Conditional
expression::erase_operand-returns-in_ok-second-in-Conditional t c = become view.operand c.conditional.result c.conditional.ensures (rw (c.in_ok-condition-in-Conditional.ensures, c.in_ok-first-in-Conditional.ensures, c.in_ok-second-in-Conditional.ensures, c.deref.ensures, c.deref-in-Conditional.ensures, c.deref-in-Conditional-2.ensures) refl ∙ sym (ap (λ (x : Operand). erased.operand (view.operand x)) c.in-Conditional.is ∙ erasing_conditional c.in-Conditional.condition c.in-Conditional.question c.in-Conditional.first c.in-Conditional.colon c.in-Conditional.second))

pub expression::erase_operand-returns-in_ok-more-in-Binary : goal.expression::erase_operand-returns-in_ok-more-in-Binary
expression::erase_operand-returns-in_ok-more-in-Binary t c = become view.operand c.binary.result c.binary.ensures (rw (c.in_ok-first-in-Binary.ensures, c.in_ok-more-in-Binary.ensures, c.deref-in-Binary.ensures) refl ∙ sym (ap (λ (x : Operand). erased.operand (view.operand x)) c.in-Binary.is ∙ erasing_binary c.in-Binary.first c.in-Binary.more))

pub expression::erase_operand-returns-in_ok-type_node-in-Is : goal.expression::erase_operand-returns-in_ok-type_node-in-Is
expression::erase_operand-returns-in_ok-type_node-in-Is t c = become view.operand c.is_type.result c.is_type.ensures (rw (c.in_ok-operand-in-Is.ensures, c.in_ok-type_node-in-Is.ensures, c.deref-in-Is.ensures, c.deref-in-Is-2.ensures) refl ∙ sym (ap (λ (x : Operand). erased.operand (view.operand x)) c.in-Is.is ∙ erasing_is_type c.in-Is.operand c.in-Is.word c.in-Is.bang c.in-Is.type_node))

pub expression::erase_operand-returns-in_ok-type_node-in-As : goal.expression::erase_operand-returns-in_ok-type_node-in-As
expression::erase_operand-returns-in_ok-type_node-in-As t c = become view.operand c.as_type.result c.as_type.ensures (rw (c.in_ok-operand-in-As.ensures, c.in_ok-type_node-in-As.ensures, c.deref-in-As.ensures, c.deref-in-As-2.ensures) refl ∙ sym (ap (λ (x : Operand). erased.operand (view.operand x)) c.in-As.is ∙ erasing_as_type c.in-As.operand c.in-As.word c.in-As.type_node))

pub expression::erase_operand-returns-in_ok-operand-in-Prefix : goal.expression::erase_operand-returns-in_ok-operand-in-Prefix
expression::erase_operand-returns-in_ok-operand-in-Prefix t c = become view.operand c.prefix.result c.prefix.ensures (rw (c.in_ok-operand-in-Prefix.ensures, c.deref-in-Prefix.ensures) refl ∙ sym (ap (λ (x : Operand). erased.operand (view.operand x)) c.in-Prefix.is ∙ erasing_prefix c.in-Prefix.operator c.in-Prefix.operand))

pub expression::erase_operand-returns-in_ok-selectors-in-Postfix : goal.expression::erase_operand-returns-in_ok-selectors-in-Postfix
expression::erase_operand-returns-in_ok-selectors-in-Postfix t c = become view.operand c.postfix.result c.postfix.ensures (rw (c.in_ok-primary-in-Postfix.ensures, c.in_ok-selectors-in-Postfix.ensures, c.deref-in-Postfix.ensures) refl ∙ sym (ap (λ (x : Operand). erased.operand (view.operand x)) c.in-Postfix.is ∙ erasing_postfix c.in-Postfix.primary c.in-Postfix.selectors c.in-Postfix.operator))

pub expression::erase_operand-returns-in_ok-primary-in-Primary : goal.expression::erase_operand-returns-in_ok-primary-in-Primary
expression::erase_operand-returns-in_ok-primary-in-Primary t c = view_primary c.in_ok-primary-in-Primary.primary ∙ rw (c.in_ok-primary-in-Primary.ensures) refl ∙ sym (ap (λ (x : Operand). erased.operand (view.operand x)) c.in-Primary.is ∙ erasing_primary c.in-Primary.primary)

pub expression::erase_primary-returns-in_ok-selector-in-Super : goal.expression::erase_primary-returns-in_ok-selector-in-Super
expression::erase_primary-returns-in_ok-selector-in-Super t c = become view.primary c.super_access.result c.super_access.ensures (rw (c.in_ok-selector-in-Super.ensures, c.deref.ensures) refl ∙ sym (ap (λ (x : Primary). erased.primary (view.primary x)) c.in-Super.is ∙ erasing_super_access c.in-Super.word c.in-Super.selector))

pub expression::erase_primary-returns-in-BareSuper : goal.expression::erase_primary-returns-in-BareSuper
expression::erase_primary-returns-in-BareSuper t c = view_bare_super c.in-BareSuper.word ∙ sym (ap (λ (x : Primary). erased.primary (view.primary x)) c.in-BareSuper.is ∙ erasing_bare_super c.in-BareSuper.word)

pub expression::erase_primary-returns-in_ok-atom-in-Atom : goal.expression::erase_primary-returns-in_ok-atom-in-Atom
expression::erase_primary-returns-in_ok-atom-in-Atom t c = view_atom c.in_ok-atom-in-Atom.atom ∙ rw (c.in_ok-atom-in-Atom.ensures) refl ∙ sym (ap (λ (x : Primary). erased.primary (view.primary x)) c.in-Atom.is ∙ erasing_atom c.in-Atom.atom)

pub expression::erase_primary-returns-in_ok-pieces-in-Text : goal.expression::erase_primary-returns-in_ok-pieces-in-Text
expression::erase_primary-returns-in_ok-pieces-in-Text t c = c.text.ensures ∙ rw (c.in_ok-pieces-in-Text.ensures) refl ∙ sym (ap (λ (x : Primary). erased.primary (view.primary x)) c.in-Text.is ∙ erasing_text c.in-Text.pieces)

pub expression::erase_primary-returns-in_ok-items-in-List : goal.expression::erase_primary-returns-in_ok-items-in-List
expression::erase_primary-returns-in_ok-items-in-List t c = become view.primary c.list_literal.result c.list_literal.ensures (rw (c.in_ok-types-in-List.ensures, c.in_ok-items-in-List.ensures, c.deref-in-List.ensures) refl ∙ sym (ap (λ (x : Primary). erased.primary (view.primary x)) c.in-List.is ∙ erasing_list_literal c.in-List.type_arguments c.in-List.opening c.in-List.items c.in-List.comma c.in-List.closing))

pub expression::erase_primary-returns-in_ok-entries-in-Map : goal.expression::erase_primary-returns-in_ok-entries-in-Map
expression::erase_primary-returns-in_ok-entries-in-Map t c = become view.primary c.map_literal.result c.map_literal.ensures (rw (c.in_ok-types-in-Map.ensures, c.in_ok-entries-in-Map.ensures, c.deref-in-Map.ensures) refl ∙ sym (ap (λ (x : Primary). erased.primary (view.primary x)) c.in-Map.is ∙ erasing_map_literal c.in-Map.type_arguments c.in-Map.opening c.in-Map.entries c.in-Map.comma c.in-Map.closing))

pub expression::erase_primary-returns-in_ok-arguments-in-New : goal.expression::erase_primary-returns-in_ok-arguments-in-New
expression::erase_primary-returns-in_ok-arguments-in-New t c = become view.primary c.new_object.result c.new_object.ensures (rw (c.in_ok-class-in-New.ensures, c.in_ok-constructor-in-New.ensures, c.in_ok-arguments-in-New.ensures, c.deref-in-New.ensures, c.deref-in-New-2.ensures, c.deref-in-New-3.ensures) refl ∙ sym (ap (λ (x : Primary). erased.primary (view.primary x)) c.in-New.is ∙ erasing_new_object c.in-New.creation c.in-New.class c.in-New.constructor c.in-New.arguments))

pub expression::erase_primary-returns-in_ok-body-in-Function : goal.expression::erase_primary-returns-in_ok-body-in-Function
expression::erase_primary-returns-in_ok-body-in-Function t c = become view.primary c.function_literal.result c.function_literal.ensures (rw (c.in_ok-parameters-in-Function.ensures, c.in_ok-body-in-Function.ensures, c.deref-in-Function.ensures) refl ∙ sym (ap (λ (x : Primary). erased.primary (view.primary x)) c.in-Function.is ∙ erasing_function_literal c.in-Function.parameters c.in-Function.body))

pub expression::erase_primary-returns-in_ok-value-in-Parenthesized : goal.expression::erase_primary-returns-in_ok-value-in-Parenthesized
expression::erase_primary-returns-in_ok-value-in-Parenthesized t c = become view.primary c.parenthesized.result c.parenthesized.ensures (rw (c.in_ok-value-in-Parenthesized.ensures, c.deref-in-Parenthesized.ensures) refl ∙ sym (ap (λ (x : Primary). erased.primary (view.primary x)) c.in-Parenthesized.is ∙ erasing_parenthesized c.in-Parenthesized.opening c.in-Parenthesized.value c.in-Parenthesized.closing))

pub expression::erase_selector-returns-in_ok-name-in-Member : goal.expression::erase_selector-returns-in_ok-name-in-Member
expression::erase_selector-returns-in_ok-name-in-Member t c = view_member c.in-Member.dot c.in_ok-name-in-Member.name ∙ rw (c.in_ok-name-in-Member.ensures) refl ∙ sym (ap (λ (x : Selector). erased.selector (view.selector x)) c.in-Member.is ∙ erasing_member c.in-Member.dot c.in-Member.name)

pub expression::erase_selector-returns-in_ok-value-in-Index : goal.expression::erase_selector-returns-in_ok-value-in-Index
expression::erase_selector-returns-in_ok-value-in-Index t c = become view.selector c.index.result c.index.ensures (rw (c.in_ok-value-in-Index.ensures, c.deref.ensures) refl ∙ sym (ap (λ (x : Selector). erased.selector (view.selector x)) c.in-Index.is ∙ erasing_index c.in-Index.opening c.in-Index.value c.in-Index.closing))

pub expression::erase_selector-returns-in_ok-arguments-in-Call : goal.expression::erase_selector-returns-in_ok-arguments-in-Call
expression::erase_selector-returns-in_ok-arguments-in-Call t c = view_call c.in_ok-arguments-in-Call.arguments ∙ rw (c.in_ok-arguments-in-Call.ensures) refl ∙ sym (ap (λ (x : Selector). erased.selector (view.selector x)) c.in-Call.is ∙ erasing_call c.in-Call.arguments)

pub expression::erase_value-returns-in-Omitted : goal.expression::erase_value-returns-in-Omitted
expression::erase_value-returns-in-Omitted t c = view_omitted ∙ sym (ap (λ (x : Value). erased.value (view.value x)) c.in-Omitted.is ∙ erasing_omitted)

pub expression::erase_value-returns-in_ok-value-in-Given : goal.expression::erase_value-returns-in_ok-value-in-Given
expression::erase_value-returns-in_ok-value-in-Given t c = become view.value c.given.result c.given.ensures (rw (c.in_ok-value-in-Given.ensures, c.deref.ensures) refl ∙ sym (ap (λ (x : Value). erased.value (view.value x)) c.in-Given.is ∙ erasing_given c.in-Given.operator c.in-Given.value))

pub expression::erase_arguments-returns : goal.expression::erase_arguments-returns
expression::erase_arguments-returns t c = c.arguments.ensures ∙ rw (c.in_ok-items.ensures) refl ∙ sym (erasing_the_arguments c.args.tree.now)

pub expression::erase_tails-loop-tail-init : goal.expression::erase_tails-loop-tail-init
expression::erase_tails-loop-tail-init t c = λ ys e. ap tails_of (ap (λ (l : List Tail). l ++ ys) c.new-found.ensures.items) ∙ e

pub expression::erase_tails-loop-tail-preserved : goal.expression::erase_tails-loop-tail-preserved
expression::erase_tails-loop-tail-preserved t c = turn tails_of (λ (xs : List Tail). erased.tails (tails_of xs)) c.args.all.now.items c.deref-tail-items.result.now c.loop-tail.tail-index c.tail-item.result (record { operator = c.tail-item.result.operator; operand = c.in_ok-operand.operand }) c.loop-tail.found.items c.push.new.self.items c.deref-tail-items.ensures.value c.loop-tail-test.true c.tail-item.is c.loop-tail.invariant c.in_ok-push.ensures.items (each_tails c.tail-item.result (record { operator = c.tail-item.result.operator; operand = c.in_ok-operand.operand }) refl c.in_ok-operand.ensures)

pub expression::erase_tails-returns : goal.expression::erase_tails-returns
expression::erase_tails-returns t c = over tails_of (λ (xs : List Tail). erased.tails (tails_of xs)) none_tails c.args.all.now.items c.deref-tail-items.result.now c.loop-tail.tail-index c.loop-tail.found.items c.deref-tail-items.ensures.value c.loop-tail-test.false c.loop-tail.invariant

pub expression::erase_pieces-loop-piece-init : goal.expression::erase_pieces-loop-piece-init
expression::erase_pieces-loop-piece-init t c = λ ys e. ap pieces_of (ap (λ (l : List StringPiece). l ++ ys) c.new-found.ensures.items) ∙ e

pub expression::erase_pieces-loop-piece-preserved : goal.expression::erase_pieces-loop-piece-preserved
expression::erase_pieces-loop-piece-preserved t c = turn pieces_of (λ (xs : List StringPiece). erased.pieces (pieces_of xs)) c.args.all.now.items c.deref-piece-items.result.now c.loop-piece.piece-index c.piece-item.result (record { kind = c.piece-item.result.kind; place = c.piece-item.result.place; text = c.in_ok-text.text; value = c.in_ok-value.value }) c.loop-piece.found.items c.push.new.self.items c.deref-piece-items.ensures.value c.loop-piece-test.true c.piece-item.is c.loop-piece.invariant c.in_ok-push.ensures.items (each_pieces c.piece-item.result (record { kind = c.piece-item.result.kind; place = c.piece-item.result.place; text = c.in_ok-text.text; value = c.in_ok-value.value }) refl refl c.in_ok-text.ensures c.in_ok-value.ensures)

pub expression::erase_pieces-returns : goal.expression::erase_pieces-returns
expression::erase_pieces-returns t c = over pieces_of (λ (xs : List StringPiece). erased.pieces (pieces_of xs)) none_pieces c.args.all.now.items c.deref-piece-items.result.now c.loop-piece.piece-index c.loop-piece.found.items c.deref-piece-items.ensures.value c.loop-piece-test.false c.loop-piece.invariant

pub expression::erase_selectors-loop-selector-init : goal.expression::erase_selectors-loop-selector-init
expression::erase_selectors-loop-selector-init t c = λ ys e. ap selectors_of (ap (λ (l : List Selector). l ++ ys) c.new-found.ensures.items) ∙ e

pub expression::erase_selectors-loop-selector-preserved : goal.expression::erase_selectors-loop-selector-preserved
expression::erase_selectors-loop-selector-preserved t c = turn selectors_of (λ (xs : List Selector). erased.selectors (selectors_of xs)) c.args.all.now.items c.deref-selector-items.result.now c.loop-selector.selector-index c.selector-item.result c.in_ok-selector.selector c.loop-selector.found.items c.push.new.self.items c.deref-selector-items.ensures.value c.loop-selector-test.true c.selector-item.is c.loop-selector.invariant c.in_ok-push.ensures.items (each_selectors c.selector-item.result c.in_ok-selector.selector c.in_ok-selector.ensures)

pub expression::erase_selectors-returns : goal.expression::erase_selectors-returns
expression::erase_selectors-returns t c = over selectors_of (λ (xs : List Selector). erased.selectors (selectors_of xs)) none_selectors c.args.all.now.items c.deref-selector-items.result.now c.loop-selector.selector-index c.loop-selector.found.items c.deref-selector-items.ensures.value c.loop-selector-test.false c.loop-selector.invariant

pub expression::erase_cascades-loop-cascade-init : goal.expression::erase_cascades-loop-cascade-init
expression::erase_cascades-loop-cascade-init t c = λ ys e. ap cascades_of (ap (λ (l : List Cascade). l ++ ys) c.new-found.ensures.items) ∙ e

pub expression::erase_cascades-loop-cascade-preserved : goal.expression::erase_cascades-loop-cascade-preserved
expression::erase_cascades-loop-cascade-preserved t c = turn cascades_of (λ (xs : List Cascade). erased.cascades (cascades_of xs)) c.args.all.now.items c.deref-cascade-items.result.now c.loop-cascade.cascade-index c.cascade-item.result (record { dots = c.cascade-item.result.dots; selectors = c.in_ok-selectors.selectors; value = c.in_ok-value.value }) c.loop-cascade.found.items c.push.new.self.items c.deref-cascade-items.ensures.value c.loop-cascade-test.true c.cascade-item.is c.loop-cascade.invariant c.in_ok-push.ensures.items (each_cascades c.cascade-item.result (record { dots = c.cascade-item.result.dots; selectors = c.in_ok-selectors.selectors; value = c.in_ok-value.value }) refl c.in_ok-selectors.ensures c.in_ok-value.ensures)

pub expression::erase_cascades-returns : goal.expression::erase_cascades-returns
expression::erase_cascades-returns t c = over cascades_of (λ (xs : List Cascade). erased.cascades (cascades_of xs)) none_cascades c.args.all.now.items c.deref-cascade-items.result.now c.loop-cascade.cascade-index c.loop-cascade.found.items c.deref-cascade-items.ensures.value c.loop-cascade-test.false c.loop-cascade.invariant

pub expression::erase_items-loop-item-init : goal.expression::erase_items-loop-item-init
expression::erase_items-loop-item-init t c = λ ys e. ap items_of (ap (λ (l : List Item). l ++ ys) c.new-found.ensures.items) ∙ e

pub expression::erase_items-loop-item-preserved : goal.expression::erase_items-loop-item-preserved
expression::erase_items-loop-item-preserved t c = turn items_of (λ (xs : List Item). erased.items (items_of xs)) c.args.all.now.items c.deref-item-items.result.now c.loop-item.item-index c.item-item.result (record { comma = c.item-item.result.comma; label = c.in_ok-label.label; value = c.in_ok-value.value }) c.loop-item.found.items c.push.new.self.items c.deref-item-items.ensures.value c.loop-item-test.true c.item-item.is c.loop-item.invariant c.in_ok-push.ensures.items (each_items c.item-item.result (record { comma = c.item-item.result.comma; label = c.in_ok-label.label; value = c.in_ok-value.value }) refl c.in_ok-label.ensures c.in_ok-value.ensures)

pub expression::erase_items-returns : goal.expression::erase_items-returns
expression::erase_items-returns t c = over items_of (λ (xs : List Item). erased.items (items_of xs)) none_items c.args.all.now.items c.deref-item-items.result.now c.loop-item.item-index c.loop-item.found.items c.deref-item-items.ensures.value c.loop-item-test.false c.loop-item.invariant

pub expression::erase_entries-loop-entry-init : goal.expression::erase_entries-loop-entry-init
expression::erase_entries-loop-entry-init t c = λ ys e. ap entries_of (ap (λ (l : List Entry). l ++ ys) c.new-found.ensures.items) ∙ e

pub expression::erase_entries-loop-entry-preserved : goal.expression::erase_entries-loop-entry-preserved
expression::erase_entries-loop-entry-preserved t c = turn entries_of (λ (xs : List Entry). erased.entries (entries_of xs)) c.args.all.now.items c.deref-entry-items.result.now c.loop-entry.entry-index c.entry-item.result (record { comma = c.entry-item.result.comma; key = c.in_ok-key.key; colon = c.entry-item.result.colon; value = c.in_ok-value.value }) c.loop-entry.found.items c.push.new.self.items c.deref-entry-items.ensures.value c.loop-entry-test.true c.entry-item.is c.loop-entry.invariant c.in_ok-push.ensures.items (each_entries c.entry-item.result (record { comma = c.entry-item.result.comma; key = c.in_ok-key.key; colon = c.entry-item.result.colon; value = c.in_ok-value.value }) refl c.in_ok-key.ensures refl c.in_ok-value.ensures)

pub expression::erase_entries-returns : goal.expression::erase_entries-returns
expression::erase_entries-returns t c = over entries_of (λ (xs : List Entry). erased.entries (entries_of xs)) none_entries c.args.all.now.items c.deref-entry-items.result.now c.loop-entry.entry-index c.loop-entry.found.items c.deref-entry-items.ensures.value c.loop-entry-test.false c.loop-entry.invariant

pub statement::erase_parameters-returns : goal.statement::erase_parameters-returns
statement::erase_parameters-returns t c = c.parameters.ensures ∙ rw (c.in_ok-required.ensures, c.in_ok-optional.ensures) refl ∙ sym (erasing_the_parameters c.args.tree.now)

pub statement::erase_parameter-returns : goal.statement::erase_parameter-returns
statement::erase_parameter-returns t c = c.parameter.ensures ∙ rw (c.in_ok-metadata.ensures, c.in_ok-kind.ensures, c.in_ok-value.ensures) refl ∙ sym (erasing_the_parameter c.args.tree.now)

pub statement::erase_annotation-returns : goal.statement::erase_annotation-returns
statement::erase_annotation-returns t c = c.annotation.ensures ∙ rw (c.in_ok-name.ensures, c.in_ok-more.ensures, c.in_ok-items.ensures) refl ∙ sym (erasing_the_annotation c.args.tree.now)

pub statement::erase_body-returns-in_ok-value-in-Arrow : goal.statement::erase_body-returns-in_ok-value-in-Arrow
statement::erase_body-returns-in_ok-value-in-Arrow t c = become view.body c.arrow.result c.arrow.ensures (rw (c.in_ok-value-in-Arrow.ensures, c.deref.ensures) refl ∙ sym (ap (λ (x : Body). erased.body (view.body x)) c.in-Arrow.is ∙ erasing_arrow_body c.in-Arrow.arrow c.in-Arrow.value c.in-Arrow.semicolon))

pub statement::erase_body-returns-in_ok-block-in-Block : goal.statement::erase_body-returns-in_ok-block-in-Block
statement::erase_body-returns-in_ok-block-in-Block t c = c.block_body.ensures ∙ rw (c.in_ok-block-in-Block.ensures) refl ∙ sym (ap (λ (x : Body). erased.body (view.body x)) c.in-Block.is ∙ erasing_block_body c.in-Block.block)

pub statement::erase_body-returns-in-Omitted : goal.statement::erase_body-returns-in-Omitted
statement::erase_body-returns-in-Omitted t c = view_no_body c.in-Omitted.semicolon ∙ sym (ap (λ (x : Body). erased.body (view.body x)) c.in-Omitted.is ∙ erasing_no_body c.in-Omitted.semicolon)

pub statement::erase_block-returns : goal.statement::erase_block-returns
statement::erase_block-returns t c = rw (c.in_ok-statements.ensures) (sym (erasing_the_block c.args.tree.now))

pub statement::erase_stmt-returns-in_ok-statement-in-Labelled : goal.statement::erase_stmt-returns-in_ok-statement-in-Labelled
statement::erase_stmt-returns-in_ok-statement-in-Labelled t c = become view.stmt c.labelled.result c.labelled.ensures (rw (c.in_ok-labels-in-Labelled.ensures, c.in_ok-statement-in-Labelled.ensures, c.deref.ensures) refl ∙ sym (ap (λ (x : Stmt). erased.stmt (view.stmt x)) c.in-Labelled.is ∙ erasing_labelled c.in-Labelled.labels c.in-Labelled.statement))

pub statement::erase_stmt-returns-in_ok-block-in-Block : goal.statement::erase_stmt-returns-in_ok-block-in-Block
statement::erase_stmt-returns-in_ok-block-in-Block t c = c.block_statement.ensures ∙ rw (c.in_ok-block-in-Block.ensures) refl ∙ sym (ap (λ (x : Stmt). erased.stmt (view.stmt x)) c.in-Block.is ∙ erasing_block_stmt c.in-Block.block)

pub statement::erase_stmt-returns-in_ok-variables-in-Variables : goal.statement::erase_stmt-returns-in_ok-variables-in-Variables
statement::erase_stmt-returns-in_ok-variables-in-Variables t c = view_variables_stmt c.in_ok-variables-in-Variables.variables ∙ rw (c.in_ok-variables-in-Variables.ensures) refl ∙ sym (ap (λ (x : Stmt). erased.stmt (view.stmt x)) c.in-Variables.is ∙ erasing_variables_stmt c.in-Variables.variables)

pub statement::erase_stmt-returns-in_ok-function-in-Function : goal.statement::erase_stmt-returns-in_ok-function-in-Function
statement::erase_stmt-returns-in_ok-function-in-Function t c = become view.stmt c.function_statement.result c.function_statement.ensures (rw (c.in_ok-function-in-Function.ensures, c.deref-in-Function.ensures) refl ∙ sym (ap (λ (x : Stmt). erased.stmt (view.stmt x)) c.in-Function.is ∙ erasing_function_stmt c.in-Function.function))

pub statement::erase_stmt-returns-in_ok-first-in-If : goal.statement::erase_stmt-returns-in_ok-first-in-If
statement::erase_stmt-returns-in_ok-first-in-If t c = become view.stmt c.if_statement.result c.if_statement.ensures (rw (c.in_ok-condition-in-If.ensures, c.in_ok-first-in-If.ensures, c.deref-in-If.ensures) refl ∙ sym (ap (λ (x : Stmt). erased.stmt (view.stmt x)) c.in-If.is ∙ erasing_if_stmt c.in-If.word c.in-If.opening c.in-If.condition c.in-If.closing c.in-If.first))

pub statement::erase_stmt-returns-in_ok-second-in-IfElse : goal.statement::erase_stmt-returns-in_ok-second-in-IfElse
statement::erase_stmt-returns-in_ok-second-in-IfElse t c = become view.stmt c.if_else.result c.if_else.ensures (rw (c.in_ok-condition-in-IfElse.ensures, c.in_ok-first-in-IfElse.ensures, c.in_ok-second-in-IfElse.ensures, c.deref-in-IfElse.ensures, c.deref-in-IfElse-2.ensures) refl ∙ sym (ap (λ (x : Stmt). erased.stmt (view.stmt x)) c.in-IfElse.is ∙ erasing_if_else c.in-IfElse.word c.in-IfElse.opening c.in-IfElse.condition c.in-IfElse.closing c.in-IfElse.first c.in-IfElse.else_word c.in-IfElse.second))

pub statement::erase_stmt-returns-in_ok-again-in-Loop : goal.statement::erase_stmt-returns-in_ok-again-in-Loop
statement::erase_stmt-returns-in_ok-again-in-Loop t c = become view.stmt c.loop_statement.result c.loop_statement.ensures (rw (c.in_ok-again-in-Loop.ensures, c.deref-in-Loop.ensures) refl ∙ sym (ap (λ (x : Stmt). erased.stmt (view.stmt x)) c.in-Loop.is ∙ erasing_loop c.in-Loop.again))

pub statement::erase_stmt-returns-in_ok-parts-in-Switch : goal.statement::erase_stmt-returns-in_ok-parts-in-Switch
statement::erase_stmt-returns-in_ok-parts-in-Switch t c = c.switch_statement.ensures ∙ rw (c.in_ok-value-in-Switch.ensures, c.in_ok-parts-in-Switch.ensures) refl ∙ sym (ap (λ (x : Stmt). erased.stmt (view.stmt x)) c.in-Switch.is ∙ erasing_switch_stmt c.in-Switch.word c.in-Switch.opening c.in-Switch.value c.in-Switch.closing c.in-Switch.opening_brace c.in-Switch.parts c.in-Switch.closing_brace)

pub statement::erase_stmt-returns-in_ok-parts-in-Try : goal.statement::erase_stmt-returns-in_ok-parts-in-Try
statement::erase_stmt-returns-in_ok-parts-in-Try t c = c.try_statement.ensures ∙ rw (c.in_ok-block-in-Try.ensures, c.in_ok-parts-in-Try.ensures) refl ∙ sym (ap (λ (x : Stmt). erased.stmt (view.stmt x)) c.in-Try.is ∙ erasing_try_stmt c.in-Try.word c.in-Try.block c.in-Try.parts)

pub statement::erase_stmt-returns-in_ok-value-in-Return : goal.statement::erase_stmt-returns-in_ok-value-in-Return
statement::erase_stmt-returns-in_ok-value-in-Return t c = view_return_stmt c.in-Return.word c.in_ok-value-in-Return.value c.in-Return.semicolon ∙ rw (c.in_ok-value-in-Return.ensures) refl ∙ sym (ap (λ (x : Stmt). erased.stmt (view.stmt x)) c.in-Return.is ∙ erasing_return_stmt c.in-Return.word c.in-Return.value c.in-Return.semicolon)

pub statement::erase_stmt-returns-in_ok-jump-in-Jump : goal.statement::erase_stmt-returns-in_ok-jump-in-Jump
statement::erase_stmt-returns-in_ok-jump-in-Jump t c = view_jump c.in_ok-jump-in-Jump.jump ∙ rw (c.in_ok-jump-in-Jump.ensures) refl ∙ sym (ap (λ (x : Stmt). erased.stmt (view.stmt x)) c.in-Jump.is ∙ erasing_jump c.in-Jump.jump)

pub statement::erase_stmt-returns-in_ok-value-in-Expression : goal.statement::erase_stmt-returns-in_ok-value-in-Expression
statement::erase_stmt-returns-in_ok-value-in-Expression t c = view_expression_stmt c.in_ok-value-in-Expression.value c.in-Expression.semicolon ∙ rw (c.in_ok-value-in-Expression.ensures) refl ∙ sym (ap (λ (x : Stmt). erased.stmt (view.stmt x)) c.in-Expression.is ∙ erasing_expression_stmt c.in-Expression.value c.in-Expression.semicolon)

pub statement::erase_loop-returns-in_ok-body-in-For : goal.statement::erase_loop-returns-in_ok-body-in-For
statement::erase_loop-returns-in_ok-body-in-For t c = become view.loop c.for_loop.result c.for_loop.ensures (rw (c.in_ok-start-in-For.ensures, c.in_ok-condition-in-For.ensures, c.in_ok-updates-in-For.ensures, c.in_ok-body-in-For.ensures, c.deref.ensures) refl ∙ sym (ap (λ (x : Loop). erased.loop (view.loop x)) c.in-For.is ∙ erasing_for_loop c.in-For.word c.in-For.opening c.in-For.start c.in-For.first_semicolon c.in-For.condition c.in-For.second_semicolon c.in-For.updates c.in-For.closing c.in-For.body))

pub statement::erase_loop-returns-in_ok-body-in-ForVariables : goal.statement::erase_loop-returns-in_ok-body-in-ForVariables
statement::erase_loop-returns-in_ok-body-in-ForVariables t c = become view.loop c.for_variables.result c.for_variables.ensures (rw (c.in_ok-variables-in-ForVariables.ensures, c.in_ok-condition-in-ForVariables.ensures, c.in_ok-updates-in-ForVariables.ensures, c.in_ok-body-in-ForVariables.ensures, c.deref-in-ForVariables.ensures) refl ∙ sym (ap (λ (x : Loop). erased.loop (view.loop x)) c.in-ForVariables.is ∙ erasing_for_variables c.in-ForVariables.word c.in-ForVariables.opening c.in-ForVariables.variables c.in-ForVariables.condition c.in-ForVariables.semicolon c.in-ForVariables.updates c.in-ForVariables.closing c.in-ForVariables.body))

pub statement::erase_loop-returns-in_ok-body-in-ForIn : goal.statement::erase_loop-returns-in_ok-body-in-ForIn
statement::erase_loop-returns-in_ok-body-in-ForIn t c = become view.loop c.for_in.result c.for_in.ensures (rw (c.erase_kind-kind.ensures, c.in_ok-name-in-ForIn.ensures, c.in_ok-iterated-in-ForIn.ensures, c.in_ok-body-in-ForIn.ensures, c.deref-in-ForIn.ensures) refl ∙ sym (ap (λ (x : Loop). erased.loop (view.loop x)) c.in-ForIn.is ∙ erasing_for_in c.in-ForIn.word c.in-ForIn.opening c.in-ForIn.kind c.in-ForIn.name c.in-ForIn.in_word c.in-ForIn.iterated c.in-ForIn.closing c.in-ForIn.body))

pub statement::erase_loop-returns-in_ok-body-in-While : goal.statement::erase_loop-returns-in_ok-body-in-While
statement::erase_loop-returns-in_ok-body-in-While t c = become view.loop c.while_loop.result c.while_loop.ensures (rw (c.in_ok-condition-in-While.ensures, c.in_ok-body-in-While.ensures, c.deref-in-While.ensures) refl ∙ sym (ap (λ (x : Loop). erased.loop (view.loop x)) c.in-While.is ∙ erasing_while_loop c.in-While.word c.in-While.opening c.in-While.condition c.in-While.closing c.in-While.body))

pub statement::erase_loop-returns-in_ok-condition-in-Do : goal.statement::erase_loop-returns-in_ok-condition-in-Do
statement::erase_loop-returns-in_ok-condition-in-Do t c = become view.loop c.do_loop.result c.do_loop.ensures (rw (c.in_ok-body-in-Do.ensures, c.in_ok-condition-in-Do.ensures, c.deref-in-Do.ensures) refl ∙ sym (ap (λ (x : Loop). erased.loop (view.loop x)) c.in-Do.is ∙ erasing_do_loop c.in-Do.word c.in-Do.body c.in-Do.while_word c.in-Do.opening c.in-Do.condition c.in-Do.closing c.in-Do.semicolon))

pub statement::erase_variables-returns : goal.statement::erase_variables-returns
statement::erase_variables-returns t c = c.variables.ensures ∙ rw (c.erase_kind-kind.ensures, c.in_ok-name.ensures, c.in_ok-value.ensures, c.in_ok-more.ensures) refl ∙ sym (erasing_the_variables c.args.tree.now)

pub statement::erase_function-returns : goal.statement::erase_function-returns
statement::erase_function-returns t c = c.function.ensures ∙ rw (c.in_ok-name.ensures, c.in_ok-parameters.ensures, c.in_ok-body.ensures) refl ∙ sym (erasing_the_function c.args.tree.now)

pub statement::erase_parameter_list-loop-parameter-init : goal.statement::erase_parameter_list-loop-parameter-init
statement::erase_parameter_list-loop-parameter-init t c = λ ys e. ap parameter_list_of (ap (λ (l : List Parameter). l ++ ys) c.new-found.ensures.items) ∙ e

pub statement::erase_parameter_list-loop-parameter-preserved : goal.statement::erase_parameter_list-loop-parameter-preserved
statement::erase_parameter_list-loop-parameter-preserved t c = turn parameter_list_of (λ (xs : List Parameter). erased.parameter_list (parameter_list_of xs)) c.args.all.now.items c.deref-parameter-items.result.now c.loop-parameter.parameter-index c.parameter-item.result c.in_ok-parameter.parameter c.loop-parameter.found.items c.push.new.self.items c.deref-parameter-items.ensures.value c.loop-parameter-test.true c.parameter-item.is c.loop-parameter.invariant c.in_ok-push.ensures.items (each_parameter_list c.parameter-item.result c.in_ok-parameter.parameter c.in_ok-parameter.ensures)

pub statement::erase_parameter_list-returns : goal.statement::erase_parameter_list-returns
statement::erase_parameter_list-returns t c = over parameter_list_of (λ (xs : List Parameter). erased.parameter_list (parameter_list_of xs)) none_parameter_list c.args.all.now.items c.deref-parameter-items.result.now c.loop-parameter.parameter-index c.loop-parameter.found.items c.deref-parameter-items.ensures.value c.loop-parameter-test.false c.loop-parameter.invariant

pub statement::erase_metadata-loop-annotation-init : goal.statement::erase_metadata-loop-annotation-init
statement::erase_metadata-loop-annotation-init t c = λ ys e. ap metadata_of (ap (λ (l : List Annotation). l ++ ys) c.new-found.ensures.items) ∙ e

pub statement::erase_metadata-loop-annotation-preserved : goal.statement::erase_metadata-loop-annotation-preserved
statement::erase_metadata-loop-annotation-preserved t c = turn metadata_of (λ (xs : List Annotation). erased.metadata (metadata_of xs)) c.args.all.now.items c.deref-annotation-items.result.now c.loop-annotation.annotation-index c.annotation-item.result c.in_ok-annotation.annotation c.loop-annotation.found.items c.push.new.self.items c.deref-annotation-items.ensures.value c.loop-annotation-test.true c.annotation-item.is c.loop-annotation.invariant c.in_ok-push.ensures.items (each_metadata c.annotation-item.result c.in_ok-annotation.annotation c.in_ok-annotation.ensures)

pub statement::erase_metadata-returns : goal.statement::erase_metadata-returns
statement::erase_metadata-returns t c = over metadata_of (λ (xs : List Annotation). erased.metadata (metadata_of xs)) none_metadata c.args.all.now.items c.deref-annotation-items.result.now c.loop-annotation.annotation-index c.loop-annotation.found.items c.deref-annotation-items.ensures.value c.loop-annotation-test.false c.loop-annotation.invariant

pub statement::erase_stmts-loop-statement-init : goal.statement::erase_stmts-loop-statement-init
statement::erase_stmts-loop-statement-init t c = λ ys e. ap stmts_of (ap (λ (l : List Stmt). l ++ ys) c.new-found.ensures.items) ∙ e

pub statement::erase_stmts-loop-statement-preserved : goal.statement::erase_stmts-loop-statement-preserved
statement::erase_stmts-loop-statement-preserved t c = turn stmts_of (λ (xs : List Stmt). erased.stmts (stmts_of xs)) c.args.all.now.items c.deref-statement-items.result.now c.loop-statement.statement-index c.statement-item.result c.in_ok-statement.statement c.loop-statement.found.items c.push.new.self.items c.deref-statement-items.ensures.value c.loop-statement-test.true c.statement-item.is c.loop-statement.invariant c.in_ok-push.ensures.items (each_stmts c.statement-item.result c.in_ok-statement.statement c.in_ok-statement.ensures)

pub statement::erase_stmts-returns : goal.statement::erase_stmts-returns
statement::erase_stmts-returns t c = over stmts_of (λ (xs : List Stmt). erased.stmts (stmts_of xs)) none_stmts c.args.all.now.items c.deref-statement-items.result.now c.loop-statement.statement-index c.loop-statement.found.items c.deref-statement-items.ensures.value c.loop-statement-test.false c.loop-statement.invariant

pub statement::erase_more_variables-loop-variable-init : goal.statement::erase_more_variables-loop-variable-init
statement::erase_more_variables-loop-variable-init t c = λ ys e. ap more_variables_of (ap (λ (l : List Variable). l ++ ys) c.new-found.ensures.items) ∙ e

pub statement::erase_more_variables-loop-variable-preserved : goal.statement::erase_more_variables-loop-variable-preserved
statement::erase_more_variables-loop-variable-preserved t c = turn more_variables_of (λ (xs : List Variable). erased.more_variables (more_variables_of xs)) c.args.all.now.items c.deref-variable-items.result.now c.loop-variable.variable-index c.variable-item.result (record { comma = c.variable-item.result.comma; name = c.in_ok-name.name; value = c.in_ok-value.value }) c.loop-variable.found.items c.push.new.self.items c.deref-variable-items.ensures.value c.loop-variable-test.true c.variable-item.is c.loop-variable.invariant c.in_ok-push.ensures.items (each_more_variables c.variable-item.result (record { comma = c.variable-item.result.comma; name = c.in_ok-name.name; value = c.in_ok-value.value }) refl c.in_ok-name.ensures c.in_ok-value.ensures)

pub statement::erase_more_variables-returns : goal.statement::erase_more_variables-returns
statement::erase_more_variables-returns t c = over more_variables_of (λ (xs : List Variable). erased.more_variables (more_variables_of xs)) none_more_variables c.args.all.now.items c.deref-variable-items.result.now c.loop-variable.variable-index c.loop-variable.found.items c.deref-variable-items.ensures.value c.loop-variable-test.false c.loop-variable.invariant

pub statement::erase_switch_parts-loop-part-init : goal.statement::erase_switch_parts-loop-part-init
statement::erase_switch_parts-loop-part-init t c = λ ys e. ap switch_parts_of (ap (λ (l : List SwitchPart). l ++ ys) c.new-found.ensures.items) ∙ e

pub statement::erase_switch_parts-loop-part-preserved : goal.statement::erase_switch_parts-loop-part-preserved
statement::erase_switch_parts-loop-part-preserved t c = turn switch_parts_of (λ (xs : List SwitchPart). erased.switch_parts (switch_parts_of xs)) c.args.all.now.items c.deref-part-items.result.now c.loop-part.part-index c.part-item.result (record { labels = c.in_ok-labels.labels; word = c.part-item.result.word; value = c.in_ok-value.value; colon = c.part-item.result.colon; statements = c.in_ok-statements.statements }) c.loop-part.found.items c.push.new.self.items c.deref-part-items.ensures.value c.loop-part-test.true c.part-item.is c.loop-part.invariant c.in_ok-push.ensures.items (each_switch_parts c.part-item.result (record { labels = c.in_ok-labels.labels; word = c.part-item.result.word; value = c.in_ok-value.value; colon = c.part-item.result.colon; statements = c.in_ok-statements.statements }) c.in_ok-labels.ensures refl c.in_ok-value.ensures refl c.in_ok-statements.ensures)

pub statement::erase_switch_parts-returns : goal.statement::erase_switch_parts-returns
statement::erase_switch_parts-returns t c = over switch_parts_of (λ (xs : List SwitchPart). erased.switch_parts (switch_parts_of xs)) none_switch_parts c.args.all.now.items c.deref-part-items.result.now c.loop-part.part-index c.loop-part.found.items c.deref-part-items.ensures.value c.loop-part-test.false c.loop-part.invariant

pub statement::erase_try_parts-loop-part-init : goal.statement::erase_try_parts-loop-part-init
statement::erase_try_parts-loop-part-init t c = λ ys e. ap try_parts_of (ap (λ (l : List TryPart). l ++ ys) c.new-found.ensures.items) ∙ e

pub statement::erase_try_parts-loop-part-preserved : goal.statement::erase_try_parts-loop-part-preserved
statement::erase_try_parts-loop-part-preserved t c = turn try_parts_of (λ (xs : List TryPart). erased.try_parts (try_parts_of xs)) c.args.all.now.items c.deref-part-items.result.now c.loop-part.part-index c.part-item.result (record { kind = c.in_ok-kind.kind; block = c.in_ok-block.block }) c.loop-part.found.items c.push.new.self.items c.deref-part-items.ensures.value c.loop-part-test.true c.part-item.is c.loop-part.invariant c.in_ok-push.ensures.items (each_try_parts c.part-item.result (record { kind = c.in_ok-kind.kind; block = c.in_ok-block.block }) c.in_ok-kind.ensures c.in_ok-block.ensures)

pub statement::erase_try_parts-returns : goal.statement::erase_try_parts-returns
statement::erase_try_parts-returns t c = over try_parts_of (λ (xs : List TryPart). erased.try_parts (try_parts_of xs)) none_try_parts c.args.all.now.items c.deref-part-items.result.now c.loop-part.part-index c.loop-part.found.items c.deref-part-items.ensures.value c.loop-part-test.false c.loop-part.invariant
