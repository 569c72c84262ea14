use Rattle.std.proofs.Common.{List, [], ◌∷◌, ◌++◌, ◌∙◌, ap, append_assoc, rules}
use Rattle.dart_token.specs.declared.sign.Sign.TheVariants as sg
use Rattle.dart_tree.specs.declared.expression.Tail.{Tail}
use Rattle.dart_tree.specs.declared.expression.StringPiece.{StringPiece}
use Rattle.dart_tree.specs.declared.expression.Cascade.{Cascade}
use Rattle.dart_tree.specs.declared.expression.Item.{Item}
use Rattle.dart_tree.specs.declared.expression.Entry.{Entry}
use Rattle.dart_tree.specs.declared.parameter.Parameter.{Parameter}
use Rattle.dart_tree.specs.declared.parameter.Annotation.{Annotation}
use Rattle.dart_tree.specs.declared.statement.Variable.{Variable}
use Rattle.dart_tree.specs.declared.statement.SwitchPart.{SwitchPart}
use Rattle.dart_tree.specs.declared.statement.TryPart.{TryPart}
use Rattle.dart_tree.specs.declared.expression.Expr.{Expr}
use Rattle.dart_tree.specs.declared.expression.Operand.{Operand}
use Rattle.dart_tree.specs.declared.expression.Primary.{Primary}
use Rattle.dart_tree.specs.declared.expression.Selector.{Selector}
use Rattle.dart_tree.specs.declared.expression.Value.{Value}
use Rattle.dart_tree.specs.declared.parameter.ParameterKind.{ParameterKind}
use Rattle.dart_tree.specs.declared.statement.Stmt.{Stmt}
use Rattle.dart_tree.specs.declared.statement.Loop.{Loop}
use Rattle.dart_tree.specs.declared.statement.Body.{Body}
use Rattle.dart_tree.specs.Tokens.{switch_word, primary_tokens, loop_tokens, expr_tokens, operand_tokens, selector_tokens, value_tokens, parameter_kind_tokens, stmt_tokens, body_tokens, parameter_tokens, annotation_tokens, block_tokens, tails_tokens, pieces_tokens, selectors_tokens, cascades_tokens, items_tokens, entries_tokens, parameter_list_tokens, metadata_tokens, stmts_tokens, more_variables_tokens, switch_parts_tokens, try_parts_tokens}
use Rattle.dart_tree.specs.Lists.{block_of, tails_of, pieces_of, selectors_of, cascades_of, items_of, entries_of, parameter_list_of, metadata_of, stmts_of, more_variables_of, switch_parts_of, try_parts_of}
use Rattle.dart_tree.specs.LeafTokens.{sign_at, word_at, maybe_sign, operator_tokens, identifier_tokens, maybe_label, labels_tokens, piece_token, try_kind_tokens}
use Rattle.dart_unparse.proofs.Turns.{turn, over, then_more}
use Rattle.dart_tree.specs.View as view
use Rattle.dart_unparse.proofs.Spelt.{none_tails, more_tails, none_pieces, more_pieces, none_selectors, more_selectors, none_cascades, more_cascades, none_items, more_items, none_entries, more_entries, none_parameter_list, more_parameter_list, none_metadata, more_metadata, none_stmts, more_stmts, none_more_variables, more_more_variables, none_switch_parts, more_switch_parts, none_try_parts, more_try_parts, spelt_assign, spelt_plain, spelt_throw, spelt_conditional, spelt_binary, spelt_is_type, spelt_as_type, spelt_prefix, spelt_postfix, spelt_primary, spelt_super_access, spelt_bare_super, spelt_atom, spelt_text, spelt_list_literal, spelt_map_literal, spelt_new_object, spelt_function_literal, spelt_parenthesized, spelt_member, spelt_index, spelt_call, spelt_omitted, spelt_given, spelt_plain_parameter, spelt_function_parameter, spelt_labelled, spelt_block_stmt, spelt_variables_stmt, spelt_function_stmt, spelt_if_stmt, spelt_if_else, spelt_loop, spelt_switch_stmt, spelt_try_stmt, spelt_return_stmt, spelt_jump, spelt_expression_stmt, spelt_for_loop, spelt_for_variables, spelt_for_in, spelt_while_loop, spelt_do_loop, spelt_arrow_body, spelt_block_body, spelt_no_body, spelt_the_arguments, spelt_the_parameters, spelt_the_parameter, spelt_the_annotation, spelt_the_variables, spelt_the_function, spelt_the_block}
use Rattle.dart_unparse.proofs.leaf.Writer.+write.Goals as goal

pub expr-returns-in_ok-operator-in-Assign : goal.expr-returns-in_ok-operator-in-Assign
expr-returns-in_ok-operator-in-Assign u c =
    let e = ap (λ (x : Expr). expr_tokens (view.expr x)) c.in-Assign.is ∙ spelt_assign c.in-Assign.target c.in-Assign.operator c.in-Assign.value in
    rw e (search (rules, append_assoc))

pub expr-returns-in_ok-operand-in-Plain : goal.expr-returns-in_ok-operand-in-Plain
expr-returns-in_ok-operand-in-Plain u c =
    let e = ap (λ (x : Expr). expr_tokens (view.expr x)) c.in-Plain.is ∙ spelt_plain c.in-Plain.operand c.in-Plain.cascades in
    rw e (search (rules, append_assoc))

pub expr-returns-in_ok-word-in-Throw : goal.expr-returns-in_ok-word-in-Throw
expr-returns-in_ok-word-in-Throw u c =
    let e = ap (λ (x : Expr). expr_tokens (view.expr x)) c.in-Throw.is ∙ spelt_throw c.in-Throw.word c.in-Throw.value in
    rw e (search (rules, append_assoc))

pub operand-returns-in_ok-sign-in-Conditional-2 : goal.operand-returns-in_ok-sign-in-Conditional-2
operand-returns-in_ok-sign-in-Conditional-2 u c =
    let e = ap (λ (x : Operand). operand_tokens (view.operand x)) c.in-Conditional.is ∙ spelt_conditional c.in-Conditional.condition c.in-Conditional.question c.in-Conditional.first c.in-Conditional.colon c.in-Conditional.second in
    rw e (search (rules, append_assoc))

pub operand-returns-in_ok-operand-in-Binary : goal.operand-returns-in_ok-operand-in-Binary
operand-returns-in_ok-operand-in-Binary u c =
    let e = ap (λ (x : Operand). operand_tokens (view.operand x)) c.in-Binary.is ∙ spelt_binary c.in-Binary.first c.in-Binary.more in
    rw e (search (rules, append_assoc))

pub operand-returns-in_ok-maybe_sign-in-Is : goal.operand-returns-in_ok-maybe_sign-in-Is
operand-returns-in_ok-maybe_sign-in-Is u c =
    let e = ap (λ (x : Operand). operand_tokens (view.operand x)) c.in-Is.is ∙ spelt_is_type c.in-Is.operand c.in-Is.word c.in-Is.bang c.in-Is.type_node in
    rw e (search (rules, append_assoc))

pub operand-returns-in_ok-word-in-As : goal.operand-returns-in_ok-word-in-As
operand-returns-in_ok-word-in-As u c =
    let e = ap (λ (x : Operand). operand_tokens (view.operand x)) c.in-As.is ∙ spelt_as_type c.in-As.operand c.in-As.word c.in-As.type_node in
    rw e (search (rules, append_assoc))

pub operand-returns-in_ok-operator-in-Prefix : goal.operand-returns-in_ok-operator-in-Prefix
operand-returns-in_ok-operator-in-Prefix u c =
    let e = ap (λ (x : Operand). operand_tokens (view.operand x)) c.in-Prefix.is ∙ spelt_prefix c.in-Prefix.operator c.in-Prefix.operand in
    rw e (search (rules, append_assoc))

pub operand-returns-in_ok-selectors-in-Postfix : goal.operand-returns-in_ok-selectors-in-Postfix
operand-returns-in_ok-selectors-in-Postfix u c =
    let e = ap (λ (x : Operand). operand_tokens (view.operand x)) c.in-Postfix.is ∙ spelt_postfix c.in-Postfix.primary c.in-Postfix.selectors c.in-Postfix.operator in
    rw e (search (rules, append_assoc))

pub operand-returns-in-Primary : goal.operand-returns-in-Primary
operand-returns-in-Primary u c =
    let e = ap (λ (x : Operand). operand_tokens (view.operand x)) c.in-Primary.is ∙ spelt_primary c.in-Primary.primary in
    rw e (search rules)

pub primary-returns-in_ok-word-in-Super : goal.primary-returns-in_ok-word-in-Super
primary-returns-in_ok-word-in-Super u c =
    let e = ap (λ (x : Primary). primary_tokens (view.primary x)) c.in-Super.is ∙ spelt_super_access c.in-Super.word c.in-Super.selector in
    rw e (search (rules, append_assoc))

pub primary-returns-in-BareSuper : goal.primary-returns-in-BareSuper
primary-returns-in-BareSuper u c =
    let e = ap (λ (x : Primary). primary_tokens (view.primary x)) c.in-BareSuper.is ∙ spelt_bare_super c.in-BareSuper.word in
    rw e (search rules)

pub primary-returns-in-Atom : goal.primary-returns-in-Atom
primary-returns-in-Atom u c =
    let e = ap (λ (x : Primary). primary_tokens (view.primary x)) c.in-Atom.is ∙ spelt_atom c.in-Atom.atom in
    rw e (search rules)

pub primary-returns-in-Text : goal.primary-returns-in-Text
primary-returns-in-Text u c =
    let e = ap (λ (x : Primary). primary_tokens (view.primary x)) c.in-Text.is ∙ spelt_text c.in-Text.pieces in
    rw e (search rules)

pub primary-returns-in_ok-maybe_sign-in-List : goal.primary-returns-in_ok-maybe_sign-in-List
primary-returns-in_ok-maybe_sign-in-List u c =
    let e = ap (λ (x : Primary). primary_tokens (view.primary x)) c.in-List.is ∙ spelt_list_literal c.in-List.type_arguments c.in-List.opening c.in-List.items c.in-List.comma c.in-List.closing in
    rw e (search (rules, append_assoc))

pub primary-returns-in_ok-maybe_sign-in-Map : goal.primary-returns-in_ok-maybe_sign-in-Map
primary-returns-in_ok-maybe_sign-in-Map u c =
    let e = ap (λ (x : Primary). primary_tokens (view.primary x)) c.in-Map.is ∙ spelt_map_literal c.in-Map.type_arguments c.in-Map.opening c.in-Map.entries c.in-Map.comma c.in-Map.closing in
    rw e (search (rules, append_assoc))

pub primary-returns-in_ok-maybe_dot_name-in-New : goal.primary-returns-in_ok-maybe_dot_name-in-New
primary-returns-in_ok-maybe_dot_name-in-New u c =
    let e = ap (λ (x : Primary). primary_tokens (view.primary x)) c.in-New.is ∙ spelt_new_object c.in-New.creation c.in-New.class c.in-New.constructor c.in-New.arguments in
    rw e (search (rules, append_assoc))

pub primary-returns-in_ok-parameters-in-Function : goal.primary-returns-in_ok-parameters-in-Function
primary-returns-in_ok-parameters-in-Function u c =
    let e = ap (λ (x : Primary). primary_tokens (view.primary x)) c.in-Function.is ∙ spelt_function_literal c.in-Function.parameters c.in-Function.body in
    rw e (search (rules, append_assoc))

pub primary-returns-in-Parenthesized : goal.primary-returns-in-Parenthesized
primary-returns-in-Parenthesized u c =
    let e = ap (λ (x : Primary). primary_tokens (view.primary x)) c.in-Parenthesized.is ∙ spelt_parenthesized c.in-Parenthesized.opening c.in-Parenthesized.value c.in-Parenthesized.closing in
    rw e (search rules)

pub selector-returns-in_ok-maybe_sign-in-Member : goal.selector-returns-in_ok-maybe_sign-in-Member
selector-returns-in_ok-maybe_sign-in-Member u c =
    let e = ap (λ (x : Selector). selector_tokens (view.selector x)) c.in-Member.is ∙ spelt_member c.in-Member.dot c.in-Member.name in
    rw e (search (rules, append_assoc))

pub selector-returns-in_ok-expr-in-Index : goal.selector-returns-in_ok-expr-in-Index
selector-returns-in_ok-expr-in-Index u c =
    let e = ap (λ (x : Selector). selector_tokens (view.selector x)) c.in-Index.is ∙ spelt_index c.in-Index.opening c.in-Index.value c.in-Index.closing in
    rw e (search (rules, append_assoc))

pub selector-returns-in-Call : goal.selector-returns-in-Call
selector-returns-in-Call u c =
    let e = ap (λ (x : Selector). selector_tokens (view.selector x)) c.in-Call.is ∙ spelt_call c.in-Call.arguments in
    rw e (search rules)

pub value-returns-in-Omitted : goal.value-returns-in-Omitted
value-returns-in-Omitted u c =
    let e = ap (λ (x : Value). value_tokens (view.value x)) c.in-Omitted.is ∙ spelt_omitted in
    rw e (search rules)

pub value-returns-in_ok-maybe_operator-in-Given : goal.value-returns-in_ok-maybe_operator-in-Given
value-returns-in_ok-maybe_operator-in-Given u c =
    let e = ap (λ (x : Value). value_tokens (view.value x)) c.in-Given.is ∙ spelt_given c.in-Given.operator c.in-Given.value in
    rw e (search (rules, append_assoc))

pub parameter_kind-returns-in_ok-maybe_this-in-Plain : goal.parameter_kind-returns-in_ok-maybe_this-in-Plain
parameter_kind-returns-in_ok-maybe_this-in-Plain u c =
    let e = ap (λ (x : ParameterKind). parameter_kind_tokens (view.parameter_kind x)) c.in-Plain.is ∙ spelt_plain_parameter c.in-Plain.kind c.in-Plain.this_dot c.in-Plain.name in
    rw e (search (rules, append_assoc))

pub parameter_kind-returns-in_ok-identifier-in-Function : goal.parameter_kind-returns-in_ok-identifier-in-Function
parameter_kind-returns-in_ok-identifier-in-Function u c =
    let e = ap (λ (x : ParameterKind). parameter_kind_tokens (view.parameter_kind x)) c.in-Function.is ∙ spelt_function_parameter c.in-Function.result_type c.in-Function.this_dot c.in-Function.name c.in-Function.parameters in
    rw e (search (rules, append_assoc))

pub statement-returns-in_ok-labels-in-Labelled : goal.statement-returns-in_ok-labels-in-Labelled
statement-returns-in_ok-labels-in-Labelled u c =
    let e = ap (λ (x : Stmt). stmt_tokens (view.stmt x)) c.in-Labelled.is ∙ spelt_labelled c.in-Labelled.labels c.in-Labelled.statement in
    rw e (search (rules, append_assoc))

pub statement-returns-in-Block : goal.statement-returns-in-Block
statement-returns-in-Block u c =
    let e = ap (λ (x : Stmt). stmt_tokens (view.stmt x)) c.in-Block.is ∙ spelt_block_stmt c.in-Block.block in
    rw e (search rules)

pub statement-returns-in-Variables : goal.statement-returns-in-Variables
statement-returns-in-Variables u c =
    let e = ap (λ (x : Stmt). stmt_tokens (view.stmt x)) c.in-Variables.is ∙ spelt_variables_stmt c.in-Variables.variables in
    rw e (search rules)

pub statement-returns-in-Function : goal.statement-returns-in-Function
statement-returns-in-Function u c =
    let e = ap (λ (x : Stmt). stmt_tokens (view.stmt x)) c.in-Function.is ∙ spelt_function_stmt c.in-Function.function in
    rw e (search rules)

pub statement-returns-in_ok-parenthesized-in-If : goal.statement-returns-in_ok-parenthesized-in-If
statement-returns-in_ok-parenthesized-in-If u c =
    let e = ap (λ (x : Stmt). stmt_tokens (view.stmt x)) c.in-If.is ∙ spelt_if_stmt c.in-If.word c.in-If.opening c.in-If.condition c.in-If.closing c.in-If.first in
    rw e (search (rules, append_assoc))

pub statement-returns-in_ok-word-in-IfElse-2 : goal.statement-returns-in_ok-word-in-IfElse-2
statement-returns-in_ok-word-in-IfElse-2 u c =
    let e = ap (λ (x : Stmt). stmt_tokens (view.stmt x)) c.in-IfElse.is ∙ spelt_if_else c.in-IfElse.word c.in-IfElse.opening c.in-IfElse.condition c.in-IfElse.closing c.in-IfElse.first c.in-IfElse.else_word c.in-IfElse.second in
    rw e (search (rules, append_assoc))

pub statement-returns-in-Loop : goal.statement-returns-in-Loop
statement-returns-in-Loop u c =
    let e = ap (λ (x : Stmt). stmt_tokens (view.stmt x)) c.in-Loop.is ∙ spelt_loop c.in-Loop.again in
    rw e (search rules)

pub statement-returns-in_ok-switch_parts-in-Switch : goal.statement-returns-in_ok-switch_parts-in-Switch
statement-returns-in_ok-switch_parts-in-Switch u c =
    let e = ap (λ (x : Stmt). stmt_tokens (view.stmt x)) c.in-Switch.is ∙ spelt_switch_stmt c.in-Switch.word c.in-Switch.opening c.in-Switch.value c.in-Switch.closing c.in-Switch.opening_brace c.in-Switch.parts c.in-Switch.closing_brace in
    rw e (search (rules, append_assoc))

pub statement-returns-in_ok-block-in-Try : goal.statement-returns-in_ok-block-in-Try
statement-returns-in_ok-block-in-Try u c =
    let e = ap (λ (x : Stmt). stmt_tokens (view.stmt x)) c.in-Try.is ∙ spelt_try_stmt c.in-Try.word c.in-Try.block c.in-Try.parts in
    rw e (search (rules, append_assoc))

pub statement-returns-in_ok-value-in-Return : goal.statement-returns-in_ok-value-in-Return
statement-returns-in_ok-value-in-Return u c =
    let e = ap (λ (x : Stmt). stmt_tokens (view.stmt x)) c.in-Return.is ∙ spelt_return_stmt c.in-Return.word c.in-Return.value c.in-Return.semicolon in
    rw e (search (rules, append_assoc))

pub statement-returns-in-Jump : goal.statement-returns-in-Jump
statement-returns-in-Jump u c =
    let e = ap (λ (x : Stmt). stmt_tokens (view.stmt x)) c.in-Jump.is ∙ spelt_jump c.in-Jump.jump in
    rw e (search rules)

pub statement-returns-in_ok-value-in-Expression : goal.statement-returns-in_ok-value-in-Expression
statement-returns-in_ok-value-in-Expression u c =
    let e = ap (λ (x : Stmt). stmt_tokens (view.stmt x)) c.in-Expression.is ∙ spelt_expression_stmt c.in-Expression.value c.in-Expression.semicolon in
    rw e (search (rules, append_assoc))

pub loop_statement-returns-in_ok-updates-in-For : goal.loop_statement-returns-in_ok-updates-in-For
loop_statement-returns-in_ok-updates-in-For u c =
    let e = ap (λ (x : Loop). loop_tokens (view.loop x)) c.in-For.is ∙ spelt_for_loop c.in-For.word c.in-For.opening c.in-For.start c.in-For.first_semicolon c.in-For.condition c.in-For.second_semicolon c.in-For.updates c.in-For.closing c.in-For.body in
    rw e (search (rules, append_assoc))

pub loop_statement-returns-in_ok-updates-in-ForVariables : goal.loop_statement-returns-in_ok-updates-in-ForVariables
loop_statement-returns-in_ok-updates-in-ForVariables u c =
    let e = ap (λ (x : Loop). loop_tokens (view.loop x)) c.in-ForVariables.is ∙ spelt_for_variables c.in-ForVariables.word c.in-ForVariables.opening c.in-ForVariables.variables c.in-ForVariables.condition c.in-ForVariables.semicolon c.in-ForVariables.updates c.in-ForVariables.closing c.in-ForVariables.body in
    rw e (search (rules, append_assoc))

pub loop_statement-returns-in_ok-sign-in-ForIn-2 : goal.loop_statement-returns-in_ok-sign-in-ForIn-2
loop_statement-returns-in_ok-sign-in-ForIn-2 u c =
    let e = ap (λ (x : Loop). loop_tokens (view.loop x)) c.in-ForIn.is ∙ spelt_for_in c.in-ForIn.word c.in-ForIn.opening c.in-ForIn.kind c.in-ForIn.name c.in-ForIn.in_word c.in-ForIn.iterated c.in-ForIn.closing c.in-ForIn.body in
    rw e (search (rules, append_assoc))

pub loop_statement-returns-in_ok-parenthesized-in-While : goal.loop_statement-returns-in_ok-parenthesized-in-While
loop_statement-returns-in_ok-parenthesized-in-While u c =
    let e = ap (λ (x : Loop). loop_tokens (view.loop x)) c.in-While.is ∙ spelt_while_loop c.in-While.word c.in-While.opening c.in-While.condition c.in-While.closing c.in-While.body in
    rw e (search (rules, append_assoc))

pub loop_statement-returns-in_ok-parenthesized-in-Do : goal.loop_statement-returns-in_ok-parenthesized-in-Do
loop_statement-returns-in_ok-parenthesized-in-Do u c =
    let e = ap (λ (x : Loop). loop_tokens (view.loop x)) c.in-Do.is ∙ spelt_do_loop c.in-Do.word c.in-Do.body c.in-Do.while_word c.in-Do.opening c.in-Do.condition c.in-Do.closing c.in-Do.semicolon in
    rw e (search (rules, append_assoc))

pub body-returns-in_ok-expr-in-Arrow : goal.body-returns-in_ok-expr-in-Arrow
body-returns-in_ok-expr-in-Arrow u c =
    let e = ap (λ (x : Body). body_tokens (view.body x)) c.in-Arrow.is ∙ spelt_arrow_body c.in-Arrow.arrow c.in-Arrow.value c.in-Arrow.semicolon in
    rw e (search (rules, append_assoc))

pub body-returns-in-Block : goal.body-returns-in-Block
body-returns-in-Block u c =
    let e = ap (λ (x : Body). body_tokens (view.body x)) c.in-Block.is ∙ spelt_block_body c.in-Block.block in
    rw e (search rules)

pub body-returns-in-Omitted : goal.body-returns-in-Omitted
body-returns-in-Omitted u c =
    let e = ap (λ (x : Body). body_tokens (view.body x)) c.in-Omitted.is ∙ spelt_no_body c.in-Omitted.semicolon in
    rw e (search rules)

pub arguments-returns : goal.arguments-returns
arguments-returns u c = rw (spelt_the_arguments c.args.tree.now) (search (rules, append_assoc))

pub parameters-returns : goal.parameters-returns
parameters-returns u c = rw (spelt_the_parameters c.args.tree.now) (search (rules, append_assoc))

pub parameter-returns : goal.parameter-returns
parameter-returns u c = rw (spelt_the_parameter c.args.tree.now) (search (rules, append_assoc))

pub annotation-returns : goal.annotation-returns
annotation-returns u c = rw (spelt_the_annotation c.args.tree.now) (search (rules, append_assoc))

pub variables-returns : goal.variables-returns
variables-returns u c = rw (spelt_the_variables c.args.tree.now) (search (rules, append_assoc))

pub function-returns : goal.function-returns
function-returns u c = rw (spelt_the_function c.args.tree.now) (search (rules, append_assoc))

pub block-returns : goal.block-returns
block-returns u c = rw (spelt_the_block c.args.tree.now) (search (rules, append_assoc))

pub tails-loop-tail-preserved : goal.tails-loop-tail-preserved
tails-loop-tail-preserved u c =
    turn (λ (xs : List Tail). tails_tokens (tails_of xs)) (λ (x : Tail). operator_tokens x.operator ++ operand_tokens (view.operand x.operand)) more_tails c.args.all.now.items c.deref-tail-items.result.now c.loop-tail.tail-index c.tail-item.result c.loop-tail.self.tokens.items _ _ c.deref-tail-items.ensures.value c.loop-tail-test.true c.tail-item.is c.loop-tail.invariant
    (then_more c.loop-tail.self.tokens.items (operator_tokens c.tail-item.result.operator) (operand_tokens (view.operand c.tail-item.result.operand)) c.in_ok-operator.ensures c.in_ok-operand.ensures)

pub tails-returns : goal.tails-returns
tails-returns u c = over (λ (xs : List Tail). tails_tokens (tails_of xs)) none_tails c.args.all.now.items c.deref-tail-items.result.now c.loop-tail.tail-index c.loop-tail.self.tokens.items _ c.deref-tail-items.ensures.value c.loop-tail-test.false c.loop-tail.invariant

pub pieces-loop-piece-preserved : goal.pieces-loop-piece-preserved
pieces-loop-piece-preserved u c =
    turn (λ (xs : List StringPiece). pieces_tokens (pieces_of xs)) (λ (x : StringPiece). piece_token x.kind x.place x.text ∷ (value_tokens (view.value x.value))) more_pieces c.args.all.now.items c.deref-piece-items.result.now c.loop-piece.piece-index c.piece-item.result c.loop-piece.self.tokens.items _ _ c.deref-piece-items.ensures.value c.loop-piece-test.true c.piece-item.is c.loop-piece.invariant
    (then_more c.loop-piece.self.tokens.items (piece_token c.piece-item.result.kind c.piece-item.result.place c.piece-item.result.text ∷ []) (value_tokens (view.value c.piece-item.result.value)) c.in_ok-piece.ensures c.in_ok-value.ensures)

pub pieces-returns : goal.pieces-returns
pieces-returns u c = over (λ (xs : List StringPiece). pieces_tokens (pieces_of xs)) none_pieces c.args.all.now.items c.deref-piece-items.result.now c.loop-piece.piece-index c.loop-piece.self.tokens.items _ c.deref-piece-items.ensures.value c.loop-piece-test.false c.loop-piece.invariant

pub selectors-loop-selector-preserved : goal.selectors-loop-selector-preserved
selectors-loop-selector-preserved u c =
    turn (λ (xs : List Selector). selectors_tokens (selectors_of xs)) (λ (x : Selector). selector_tokens (view.selector x)) more_selectors c.args.all.now.items c.deref-selector-items.result.now c.loop-selector.selector-index c.selector-item.result c.loop-selector.self.tokens.items _ _ c.deref-selector-items.ensures.value c.loop-selector-test.true c.selector-item.is c.loop-selector.invariant
    c.in_ok-selector.ensures

pub selectors-returns : goal.selectors-returns
selectors-returns u c = over (λ (xs : List Selector). selectors_tokens (selectors_of xs)) none_selectors c.args.all.now.items c.deref-selector-items.result.now c.loop-selector.selector-index c.loop-selector.self.tokens.items _ c.deref-selector-items.ensures.value c.loop-selector-test.false c.loop-selector.invariant

pub cascades-loop-cascade-preserved : goal.cascades-loop-cascade-preserved
cascades-loop-cascade-preserved u c =
    turn (λ (xs : List Cascade). cascades_tokens (cascades_of xs)) (λ (x : Cascade). sign_at x.dots sg.DotDot ∷ (selectors_tokens (selectors_of x.selectors.items) ++ value_tokens (view.value x.value))) more_cascades c.args.all.now.items c.deref-cascade-items.result.now c.loop-cascade.cascade-index c.cascade-item.result c.loop-cascade.self.tokens.items _ _ c.deref-cascade-items.ensures.value c.loop-cascade-test.true c.cascade-item.is c.loop-cascade.invariant
    (then_more c.loop-cascade.self.tokens.items (sign_at c.cascade-item.result.dots sg.DotDot ∷ []) (selectors_tokens (selectors_of c.cascade-item.result.selectors.items) ++ value_tokens (view.value c.cascade-item.result.value)) c.in_ok-sign.ensures (then_more c.sign.new.self.tokens.items (selectors_tokens (selectors_of c.cascade-item.result.selectors.items)) (value_tokens (view.value c.cascade-item.result.value)) c.in_ok-selectors.ensures c.in_ok-value.ensures))

pub cascades-returns : goal.cascades-returns
cascades-returns u c = over (λ (xs : List Cascade). cascades_tokens (cascades_of xs)) none_cascades c.args.all.now.items c.deref-cascade-items.result.now c.loop-cascade.cascade-index c.loop-cascade.self.tokens.items _ c.deref-cascade-items.ensures.value c.loop-cascade-test.false c.loop-cascade.invariant

pub items-loop-item-preserved : goal.items-loop-item-preserved
items-loop-item-preserved u c =
    turn (λ (xs : List Item). items_tokens (items_of xs)) (λ (x : Item). maybe_sign x.comma sg.Comma ++ (maybe_label x.label ++ expr_tokens (view.expr x.value))) more_items c.args.all.now.items c.deref-item-items.result.now c.loop-item.item-index c.item-item.result c.loop-item.self.tokens.items _ _ c.deref-item-items.ensures.value c.loop-item-test.true c.item-item.is c.loop-item.invariant
    (then_more c.loop-item.self.tokens.items (maybe_sign c.item-item.result.comma sg.Comma) (maybe_label c.item-item.result.label ++ expr_tokens (view.expr c.item-item.result.value)) c.in_ok-maybe_sign.ensures (then_more c.maybe_sign.new.self.tokens.items (maybe_label c.item-item.result.label) (expr_tokens (view.expr c.item-item.result.value)) c.in_ok-maybe_label.ensures c.in_ok-expr.ensures))

pub items-returns : goal.items-returns
items-returns u c = over (λ (xs : List Item). items_tokens (items_of xs)) none_items c.args.all.now.items c.deref-item-items.result.now c.loop-item.item-index c.loop-item.self.tokens.items _ c.deref-item-items.ensures.value c.loop-item-test.false c.loop-item.invariant

pub entries-loop-entry-preserved : goal.entries-loop-entry-preserved
entries-loop-entry-preserved u c =
    turn (λ (xs : List Entry). entries_tokens (entries_of xs)) (λ (x : Entry). maybe_sign x.comma sg.Comma ++ (expr_tokens (view.expr x.key) ++ (sign_at x.colon sg.Colon ∷ (expr_tokens (view.expr x.value))))) more_entries c.args.all.now.items c.deref-entry-items.result.now c.loop-entry.entry-index c.entry-item.result c.loop-entry.self.tokens.items _ _ c.deref-entry-items.ensures.value c.loop-entry-test.true c.entry-item.is c.loop-entry.invariant
    (then_more c.loop-entry.self.tokens.items (maybe_sign c.entry-item.result.comma sg.Comma) (expr_tokens (view.expr c.entry-item.result.key) ++ (sign_at c.entry-item.result.colon sg.Colon ∷ (expr_tokens (view.expr c.entry-item.result.value)))) c.in_ok-maybe_sign.ensures (then_more c.maybe_sign.new.self.tokens.items (expr_tokens (view.expr c.entry-item.result.key)) (sign_at c.entry-item.result.colon sg.Colon ∷ (expr_tokens (view.expr c.entry-item.result.value))) c.in_ok-expr.ensures (then_more c.expr.new.self.tokens.items (sign_at c.entry-item.result.colon sg.Colon ∷ []) (expr_tokens (view.expr c.entry-item.result.value)) c.in_ok-sign.ensures c.in_ok-expr-2.ensures)))

pub entries-returns : goal.entries-returns
entries-returns u c = over (λ (xs : List Entry). entries_tokens (entries_of xs)) none_entries c.args.all.now.items c.deref-entry-items.result.now c.loop-entry.entry-index c.loop-entry.self.tokens.items _ c.deref-entry-items.ensures.value c.loop-entry-test.false c.loop-entry.invariant

pub parameter_list-loop-parameter-preserved : goal.parameter_list-loop-parameter-preserved
parameter_list-loop-parameter-preserved u c =
    turn (λ (xs : List Parameter). parameter_list_tokens (parameter_list_of xs)) (λ (x : Parameter). parameter_tokens (view.parameter x)) more_parameter_list c.args.all.now.items c.deref-parameter-items.result.now c.loop-parameter.parameter-index c.parameter-item.result c.loop-parameter.self.tokens.items _ _ c.deref-parameter-items.ensures.value c.loop-parameter-test.true c.parameter-item.is c.loop-parameter.invariant
    c.in_ok-parameter.ensures

pub parameter_list-returns : goal.parameter_list-returns
parameter_list-returns u c = over (λ (xs : List Parameter). parameter_list_tokens (parameter_list_of xs)) none_parameter_list c.args.all.now.items c.deref-parameter-items.result.now c.loop-parameter.parameter-index c.loop-parameter.self.tokens.items _ c.deref-parameter-items.ensures.value c.loop-parameter-test.false c.loop-parameter.invariant

pub metadata-loop-annotation-preserved : goal.metadata-loop-annotation-preserved
metadata-loop-annotation-preserved u c =
    turn (λ (xs : List Annotation). metadata_tokens (metadata_of xs)) (λ (x : Annotation). annotation_tokens (view.annotation x)) more_metadata c.args.all.now.items c.deref-annotation-items.result.now c.loop-annotation.annotation-index c.annotation-item.result c.loop-annotation.self.tokens.items _ _ c.deref-annotation-items.ensures.value c.loop-annotation-test.true c.annotation-item.is c.loop-annotation.invariant
    c.in_ok-annotation.ensures

pub metadata-returns : goal.metadata-returns
metadata-returns u c = over (λ (xs : List Annotation). metadata_tokens (metadata_of xs)) none_metadata c.args.all.now.items c.deref-annotation-items.result.now c.loop-annotation.annotation-index c.loop-annotation.self.tokens.items _ c.deref-annotation-items.ensures.value c.loop-annotation-test.false c.loop-annotation.invariant

pub statements-loop-statement-preserved : goal.statements-loop-statement-preserved
statements-loop-statement-preserved u c =
    turn (λ (xs : List Stmt). stmts_tokens (stmts_of xs)) (λ (x : Stmt). stmt_tokens (view.stmt x)) more_stmts c.args.all.now.items c.deref-statement-items.result.now c.loop-statement.statement-index c.statement-item.result c.loop-statement.self.tokens.items _ _ c.deref-statement-items.ensures.value c.loop-statement-test.true c.statement-item.is c.loop-statement.invariant
    c.in_ok-statement.ensures

pub statements-returns : goal.statements-returns
statements-returns u c = over (λ (xs : List Stmt). stmts_tokens (stmts_of xs)) none_stmts c.args.all.now.items c.deref-statement-items.result.now c.loop-statement.statement-index c.loop-statement.self.tokens.items _ c.deref-statement-items.ensures.value c.loop-statement-test.false c.loop-statement.invariant

pub more_variables-loop-variable-preserved : goal.more_variables-loop-variable-preserved
more_variables-loop-variable-preserved u c =
    turn (λ (xs : List Variable). more_variables_tokens (more_variables_of xs)) (λ (x : Variable). sign_at x.comma sg.Comma ∷ (identifier_tokens x.name ++ value_tokens (view.value x.value))) more_more_variables c.args.all.now.items c.deref-variable-items.result.now c.loop-variable.variable-index c.variable-item.result c.loop-variable.self.tokens.items _ _ c.deref-variable-items.ensures.value c.loop-variable-test.true c.variable-item.is c.loop-variable.invariant
    (then_more c.loop-variable.self.tokens.items (sign_at c.variable-item.result.comma sg.Comma ∷ []) (identifier_tokens c.variable-item.result.name ++ value_tokens (view.value c.variable-item.result.value)) c.in_ok-sign.ensures (then_more c.sign.new.self.tokens.items (identifier_tokens c.variable-item.result.name) (value_tokens (view.value c.variable-item.result.value)) c.in_ok-identifier.ensures c.in_ok-value.ensures))

pub more_variables-returns : goal.more_variables-returns
more_variables-returns u c = over (λ (xs : List Variable). more_variables_tokens (more_variables_of xs)) none_more_variables c.args.all.now.items c.deref-variable-items.result.now c.loop-variable.variable-index c.loop-variable.self.tokens.items _ c.deref-variable-items.ensures.value c.loop-variable-test.false c.loop-variable.invariant

pub switch_parts-loop-part-preserved : goal.switch_parts-loop-part-preserved
switch_parts-loop-part-preserved u c =
    turn (λ (xs : List SwitchPart). switch_parts_tokens (switch_parts_of xs)) (λ (x : SwitchPart). labels_tokens x.labels.items ++ (word_at x.word (switch_word (view.value x.value)) ∷ (value_tokens (view.value x.value) ++ (sign_at x.colon sg.Colon ∷ (stmts_tokens (stmts_of x.statements.items)))))) more_switch_parts c.args.all.now.items c.deref-part-items.result.now c.loop-part.part-index c.part-item.result c.loop-part.self.tokens.items _ _ c.deref-part-items.ensures.value c.loop-part-test.true c.part-item.is c.loop-part.invariant
    (then_more c.loop-part.self.tokens.items (labels_tokens c.part-item.result.labels.items) (word_at c.part-item.result.word (switch_word (view.value c.part-item.result.value)) ∷ (value_tokens (view.value c.part-item.result.value) ++ (sign_at c.part-item.result.colon sg.Colon ∷ (stmts_tokens (stmts_of c.part-item.result.statements.items))))) c.in_ok-labels.ensures (then_more c.labels.new.self.tokens.items (word_at c.part-item.result.word (switch_word (view.value c.part-item.result.value)) ∷ []) (value_tokens (view.value c.part-item.result.value) ++ (sign_at c.part-item.result.colon sg.Colon ∷ (stmts_tokens (stmts_of c.part-item.result.statements.items)))) c.in_ok-switch_word.ensures (then_more c.switch_word.new.self.tokens.items (value_tokens (view.value c.part-item.result.value)) (sign_at c.part-item.result.colon sg.Colon ∷ (stmts_tokens (stmts_of c.part-item.result.statements.items))) c.in_ok-value.ensures (then_more c.value.new.self.tokens.items (sign_at c.part-item.result.colon sg.Colon ∷ []) (stmts_tokens (stmts_of c.part-item.result.statements.items)) c.in_ok-sign.ensures c.in_ok-statements.ensures))))

pub switch_parts-returns : goal.switch_parts-returns
switch_parts-returns u c = over (λ (xs : List SwitchPart). switch_parts_tokens (switch_parts_of xs)) none_switch_parts c.args.all.now.items c.deref-part-items.result.now c.loop-part.part-index c.loop-part.self.tokens.items _ c.deref-part-items.ensures.value c.loop-part-test.false c.loop-part.invariant

pub try_parts-loop-part-preserved : goal.try_parts-loop-part-preserved
try_parts-loop-part-preserved u c =
    turn (λ (xs : List TryPart). try_parts_tokens (try_parts_of xs)) (λ (x : TryPart). try_kind_tokens (view.try_kind x.kind) ++ block_tokens (block_of x.block)) more_try_parts c.args.all.now.items c.deref-part-items.result.now c.loop-part.part-index c.part-item.result c.loop-part.self.tokens.items _ _ c.deref-part-items.ensures.value c.loop-part-test.true c.part-item.is c.loop-part.invariant
    (then_more c.loop-part.self.tokens.items (try_kind_tokens (view.try_kind c.part-item.result.kind)) (block_tokens (block_of c.part-item.result.block)) c.in_ok-try_kind.ensures c.in_ok-block.ensures)

pub try_parts-returns : goal.try_parts-returns
try_parts-returns u c = over (λ (xs : List TryPart). try_parts_tokens (try_parts_of xs)) none_try_parts c.args.all.now.items c.deref-part-items.result.now c.loop-part.part-index c.loop-part.self.tokens.items _ c.deref-part-items.ensures.value c.loop-part-test.false c.loop-part.invariant
