use Rattle.std.proofs.Common.{List, [], ◌∷◌, ◌++◌, ◌∙◌, ap, append_assoc, rules}
use Rattle.dart_tree.specs.declared.expression.Tail.{Tail}
use Rattle.dart_tree.specs.declared.expression.StringPiece.{StringPiece}
use Rattle.dart_tree.specs.declared.expression.Cascade.{Cascade}
use Rattle.dart_tree.specs.declared.expression.Item.{Item}
use Rattle.dart_tree.specs.declared.expression.Entry.{Entry}
use Rattle.dart_tree.specs.declared.parameter.Parameter.{Parameter, out-Parameter}
use Rattle.dart_tree.specs.declared.parameter.Annotation.{Annotation}
use Rattle.dart_tree.specs.declared.statement.Variable.{Variable}
use Rattle.dart_tree.specs.declared.statement.SwitchPart.{SwitchPart}
use Rattle.dart_tree.specs.declared.statement.TryPart.{TryPart}
use Rattle.dart_tree.specs.declared.expression.Expr.{Expr}
use Rattle.dart_tree.specs.declared.expression.Operand.{Operand}
use Rattle.dart_tree.specs.declared.expression.Primary.{Primary}
use Rattle.dart_tree.specs.declared.expression.Selector.{Selector}
use Rattle.dart_tree.specs.declared.expression.Value.{Value}
use Rattle.dart_tree.specs.declared.parameter.ParameterKind.{ParameterKind}
use Rattle.dart_tree.specs.declared.statement.Stmt.{Stmt}
use Rattle.dart_tree.specs.declared.statement.Loop.{Loop}
use Rattle.dart_tree.specs.declared.statement.Body.{Body}
use Rattle.dart_tree.specs.Lists.{block_of, tails_of, pieces_of, selectors_of, cascades_of, items_of, entries_of, parameter_list_of, stmts_of, more_variables_of, switch_parts_of, try_parts_of}
use Rattle.dart_tree.specs.View as view
use Rattle.scope_declared.specs.declared.declaration.Scope.{Scope}
use Rattle.scope_declared.specs.declared.declaration.DeclaredKind.TheVariants as k
use Rattle.scope_declared.specs.Last.{identifier_place, value_last, block_last, stmts_last}
use Rattle.scope_declared.specs.Making.{behind, of_identifier, formal_declared, catch_declared}
use Rattle.scope_declared.specs.TreeDeclared.{arguments_declares, block_declares, body_declares, cascades_declares, entries_declares, expr_declares, items_declares, local_function_declares, loop_declares, more_variables_declares, operand_declares, parameter_list_declares, parameters_declares, pieces_declares, primary_declares, selector_declares, selectors_declares, stmt_declares, stmts_declares, switch_parts_declares, tails_declares, try_parts_declares, value_declares, variables_declares}
use Rattle.scope_walk.specs.Walk.{numbering}
use Rattle.scope_walk.proofs.Turns.{turn, over, then_more}
use Rattle.scope_walk.proofs.Declaring.{declares_assign, declares_plain, declares_throw, declares_conditional, declares_binary, declares_is_type, declares_as_type, declares_prefix, declares_postfix, declares_primary, declares_super_access, declares_bare_super, declares_atom, declares_text, declares_list_literal, declares_map_literal, declares_new_object, declares_function_literal, declares_parenthesized, declares_member, declares_index, declares_call, declares_omitted, declares_given, declares_arrow_body, declares_block_body, declares_no_body, declares_labelled, declares_block_stmt, declares_variables_stmt, declares_function_stmt, declares_if_stmt, declares_if_else, declares_loop, declares_switch_stmt, declares_try_stmt, declares_return_stmt, declares_jump, declares_expression_stmt, declares_for_loop, declares_for_variables, declares_for_in, declares_while_loop, declares_do_loop, declares_the_arguments, declares_the_parameters, declares_the_block, declares_the_variables, declares_the_function, none_tails, more_tails, none_pieces, more_pieces, none_selectors, more_selectors, none_cascades, more_cascades, none_items, more_items, none_entries, more_entries, none_parameter_list, more_parameter_list, none_stmts, more_stmts, none_more_variables, more_more_variables, none_switch_parts, more_switch_parts, none_try_parts, more_try_parts}
use Rattle.scope_walk.proofs.leaf.Walk.+walk.Goals as goal

pub expr-returns-in_ok-operand-in-Assign : goal.expr-returns-in_ok-operand-in-Assign
expr-returns-in_ok-operand-in-Assign u c =
    let e = ap (λ (x : Expr). expr_declares (numbering c.args.self.now) (view.expr x)) c.in-Assign.is ∙ declares_assign (numbering c.args.self.now) _ _ _ in
    rw e (search (rules, append_assoc))

pub expr-returns-in_ok-operand-in-Plain : goal.expr-returns-in_ok-operand-in-Plain
expr-returns-in_ok-operand-in-Plain u c =
    let e = ap (λ (x : Expr). expr_declares (numbering c.args.self.now) (view.expr x)) c.in-Plain.is ∙ declares_plain (numbering c.args.self.now) _ _ in
    rw e (search (rules, append_assoc))

pub expr-returns-in-Throw : goal.expr-returns-in-Throw
expr-returns-in-Throw u c =
    let e = ap (λ (x : Expr). expr_declares (numbering c.args.self.now) (view.expr x)) c.in-Throw.is ∙ declares_throw (numbering c.args.self.now) _ _ in
    rw e (search (rules, append_assoc))

pub operand-returns-in_ok-expr-in-Conditional : goal.operand-returns-in_ok-expr-in-Conditional
operand-returns-in_ok-expr-in-Conditional u c =
    let e = ap (λ (x : Operand). operand_declares (numbering c.args.self.now) (view.operand x)) c.in-Conditional.is ∙ declares_conditional (numbering c.args.self.now) _ _ _ _ _ in
    rw e (search (rules, append_assoc))

pub operand-returns-in_ok-operand-in-Binary : goal.operand-returns-in_ok-operand-in-Binary
operand-returns-in_ok-operand-in-Binary u c =
    let e = ap (λ (x : Operand). operand_declares (numbering c.args.self.now) (view.operand x)) c.in-Binary.is ∙ declares_binary (numbering c.args.self.now) _ _ in
    rw e (search (rules, append_assoc))

pub operand-returns-in-Is : goal.operand-returns-in-Is
operand-returns-in-Is u c =
    let e = ap (λ (x : Operand). operand_declares (numbering c.args.self.now) (view.operand x)) c.in-Is.is ∙ declares_is_type (numbering c.args.self.now) _ _ _ _ in
    rw e (search (rules, append_assoc))

pub operand-returns-in-As : goal.operand-returns-in-As
operand-returns-in-As u c =
    let e = ap (λ (x : Operand). operand_declares (numbering c.args.self.now) (view.operand x)) c.in-As.is ∙ declares_as_type (numbering c.args.self.now) _ _ _ in
    rw e (search (rules, append_assoc))

pub operand-returns-in-Prefix : goal.operand-returns-in-Prefix
operand-returns-in-Prefix u c =
    let e = ap (λ (x : Operand). operand_declares (numbering c.args.self.now) (view.operand x)) c.in-Prefix.is ∙ declares_prefix (numbering c.args.self.now) _ _ in
    rw e (search (rules, append_assoc))

pub operand-returns-in_ok-primary-in-Postfix : goal.operand-returns-in_ok-primary-in-Postfix
operand-returns-in_ok-primary-in-Postfix u c =
    let e = ap (λ (x : Operand). operand_declares (numbering c.args.self.now) (view.operand x)) c.in-Postfix.is ∙ declares_postfix (numbering c.args.self.now) _ _ _ in
    rw e (search (rules, append_assoc))

pub operand-returns-in-Primary : goal.operand-returns-in-Primary
operand-returns-in-Primary u c =
    let e = ap (λ (x : Operand). operand_declares (numbering c.args.self.now) (view.operand x)) c.in-Primary.is ∙ declares_primary (numbering c.args.self.now) _ in
    rw e (search (rules, append_assoc))

pub primary-returns-in-Super : goal.primary-returns-in-Super
primary-returns-in-Super u c =
    let e = ap (λ (x : Primary). primary_declares (numbering c.args.self.now) (view.primary x)) c.in-Super.is ∙ declares_super_access (numbering c.args.self.now) _ _ in
    rw e (search (rules, append_assoc))

pub primary-returns-in-BareSuper : goal.primary-returns-in-BareSuper
primary-returns-in-BareSuper u c =
    let e = ap (λ (x : Primary). primary_declares (numbering c.args.self.now) (view.primary x)) c.in-BareSuper.is ∙ declares_bare_super (numbering c.args.self.now) _ in
    rw e (search (rules, append_assoc))

pub primary-returns-in-Atom : goal.primary-returns-in-Atom
primary-returns-in-Atom u c =
    let e = ap (λ (x : Primary). primary_declares (numbering c.args.self.now) (view.primary x)) c.in-Atom.is ∙ declares_atom (numbering c.args.self.now) _ in
    rw e (search (rules, append_assoc))

pub primary-returns-in-Text : goal.primary-returns-in-Text
primary-returns-in-Text u c =
    let e = ap (λ (x : Primary). primary_declares (numbering c.args.self.now) (view.primary x)) c.in-Text.is ∙ declares_text (numbering c.args.self.now) _ in
    rw e (search (rules, append_assoc))

pub primary-returns-in-List : goal.primary-returns-in-List
primary-returns-in-List u c =
    let e = ap (λ (x : Primary). primary_declares (numbering c.args.self.now) (view.primary x)) c.in-List.is ∙ declares_list_literal (numbering c.args.self.now) _ _ _ _ _ in
    rw e (search (rules, append_assoc))

pub primary-returns-in-Map : goal.primary-returns-in-Map
primary-returns-in-Map u c =
    let e = ap (λ (x : Primary). primary_declares (numbering c.args.self.now) (view.primary x)) c.in-Map.is ∙ declares_map_literal (numbering c.args.self.now) _ _ _ _ _ in
    rw e (search (rules, append_assoc))

pub primary-returns-in-New : goal.primary-returns-in-New
primary-returns-in-New u c =
    let e = ap (λ (x : Primary). primary_declares (numbering c.args.self.now) (view.primary x)) c.in-New.is ∙ declares_new_object (numbering c.args.self.now) _ _ _ _ in
    rw e (search (rules, append_assoc))

pub primary-returns-in_ok-parameters-in-Function : goal.primary-returns-in_ok-parameters-in-Function
primary-returns-in_ok-parameters-in-Function u c =
    let e = ap (λ (x : Primary). primary_declares (numbering c.args.self.now) (view.primary x)) c.in-Function.is ∙ declares_function_literal (numbering c.args.self.now) _ _ in
    rw (e, ← c.body_last.ensures) (search (rules, append_assoc))

pub primary-returns-in-Parenthesized : goal.primary-returns-in-Parenthesized
primary-returns-in-Parenthesized u c =
    let e = ap (λ (x : Primary). primary_declares (numbering c.args.self.now) (view.primary x)) c.in-Parenthesized.is ∙ declares_parenthesized (numbering c.args.self.now) _ _ _ in
    rw e (search (rules, append_assoc))

pub selector-returns-in-Member : goal.selector-returns-in-Member
selector-returns-in-Member u c =
    let e = ap (λ (x : Selector). selector_declares (numbering c.args.self.now) (view.selector x)) c.in-Member.is ∙ declares_member (numbering c.args.self.now) _ _ in
    rw e (search (rules, append_assoc))

pub selector-returns-in-Index : goal.selector-returns-in-Index
selector-returns-in-Index u c =
    let e = ap (λ (x : Selector). selector_declares (numbering c.args.self.now) (view.selector x)) c.in-Index.is ∙ declares_index (numbering c.args.self.now) _ _ _ in
    rw e (search (rules, append_assoc))

pub selector-returns-in-Call : goal.selector-returns-in-Call
selector-returns-in-Call u c =
    let e = ap (λ (x : Selector). selector_declares (numbering c.args.self.now) (view.selector x)) c.in-Call.is ∙ declares_call (numbering c.args.self.now) _ in
    rw e (search (rules, append_assoc))

pub value-returns-in-Omitted : goal.value-returns-in-Omitted
value-returns-in-Omitted u c =
    let e = ap (λ (x : Value). value_declares (numbering c.args.self.now) (view.value x)) c.in-Omitted.is ∙ declares_omitted (numbering c.args.self.now) in
    rw e (search (rules, append_assoc))

pub value-returns-in-Given : goal.value-returns-in-Given
value-returns-in-Given u c =
    let e = ap (λ (x : Value). value_declares (numbering c.args.self.now) (view.value x)) c.in-Given.is ∙ declares_given (numbering c.args.self.now) _ _ in
    rw e (search (rules, append_assoc))

pub body-returns-in-Arrow : goal.body-returns-in-Arrow
body-returns-in-Arrow u c =
    let e = ap (λ (x : Body). body_declares (numbering c.args.self.now) (view.body x)) c.in-Arrow.is ∙ declares_arrow_body (numbering c.args.self.now) _ _ _ in
    rw e (search (rules, append_assoc))

pub body-returns-in-Block : goal.body-returns-in-Block
body-returns-in-Block u c =
    let e = ap (λ (x : Body). body_declares (numbering c.args.self.now) (view.body x)) c.in-Block.is ∙ declares_block_body (numbering c.args.self.now) _ in
    rw e (search (rules, append_assoc))

pub body-returns-in-Omitted : goal.body-returns-in-Omitted
body-returns-in-Omitted u c =
    let e = ap (λ (x : Body). body_declares (numbering c.args.self.now) (view.body x)) c.in-Omitted.is ∙ declares_no_body (numbering c.args.self.now) _ in
    rw e (search (rules, append_assoc))

pub statement-returns-in-Labelled : goal.statement-returns-in-Labelled
statement-returns-in-Labelled u c =
    let e = ap (λ (x : Stmt). stmt_declares (numbering c.args.self.now) c.args.scope (view.stmt x)) c.in-Labelled.is ∙ declares_labelled (numbering c.args.self.now) c.args.scope _ _ in
    rw e (search (rules, append_assoc))

pub statement-returns-in-Block : goal.statement-returns-in-Block
statement-returns-in-Block u c =
    let e = ap (λ (x : Stmt). stmt_declares (numbering c.args.self.now) c.args.scope (view.stmt x)) c.in-Block.is ∙ declares_block_stmt (numbering c.args.self.now) c.args.scope _ in
    rw e (search (rules, append_assoc))

pub statement-returns-in-Variables : goal.statement-returns-in-Variables
statement-returns-in-Variables u c =
    let e = ap (λ (x : Stmt). stmt_declares (numbering c.args.self.now) c.args.scope (view.stmt x)) c.in-Variables.is ∙ declares_variables_stmt (numbering c.args.self.now) c.args.scope _ in
    rw e (search (rules, append_assoc))

pub statement-returns-in-Function : goal.statement-returns-in-Function
statement-returns-in-Function u c =
    let e = ap (λ (x : Stmt). stmt_declares (numbering c.args.self.now) c.args.scope (view.stmt x)) c.in-Function.is ∙ declares_function_stmt (numbering c.args.self.now) c.args.scope _ in
    rw e (search (rules, append_assoc))

pub statement-returns-in_ok-expr-in-If : goal.statement-returns-in_ok-expr-in-If
statement-returns-in_ok-expr-in-If u c =
    let e = ap (λ (x : Stmt). stmt_declares (numbering c.args.self.now) c.args.scope (view.stmt x)) c.in-If.is ∙ declares_if_stmt (numbering c.args.self.now) c.args.scope _ _ _ _ _ in
    rw e (search (rules, append_assoc))

pub statement-returns-in_ok-branch-in-IfElse : goal.statement-returns-in_ok-branch-in-IfElse
statement-returns-in_ok-branch-in-IfElse u c =
    let e = ap (λ (x : Stmt). stmt_declares (numbering c.args.self.now) c.args.scope (view.stmt x)) c.in-IfElse.is ∙ declares_if_else (numbering c.args.self.now) c.args.scope _ _ _ _ _ _ _ in
    rw e (search (rules, append_assoc))

pub statement-returns-in-Loop : goal.statement-returns-in-Loop
statement-returns-in-Loop u c =
    let e = ap (λ (x : Stmt). stmt_declares (numbering c.args.self.now) c.args.scope (view.stmt x)) c.in-Loop.is ∙ declares_loop (numbering c.args.self.now) c.args.scope _ in
    rw e (search (rules, append_assoc))

pub statement-returns-in_ok-expr-in-Switch : goal.statement-returns-in_ok-expr-in-Switch
statement-returns-in_ok-expr-in-Switch u c =
    let e = ap (λ (x : Stmt). stmt_declares (numbering c.args.self.now) c.args.scope (view.stmt x)) c.in-Switch.is ∙ declares_switch_stmt (numbering c.args.self.now) c.args.scope _ _ _ _ _ _ _ in
    rw e (search (rules, append_assoc))

pub statement-returns-in_ok-block-in-Try : goal.statement-returns-in_ok-block-in-Try
statement-returns-in_ok-block-in-Try u c =
    let e = ap (λ (x : Stmt). stmt_declares (numbering c.args.self.now) c.args.scope (view.stmt x)) c.in-Try.is ∙ declares_try_stmt (numbering c.args.self.now) c.args.scope _ _ _ in
    rw e (search (rules, append_assoc))

pub statement-returns-in-Return : goal.statement-returns-in-Return
statement-returns-in-Return u c =
    let e = ap (λ (x : Stmt). stmt_declares (numbering c.args.self.now) c.args.scope (view.stmt x)) c.in-Return.is ∙ declares_return_stmt (numbering c.args.self.now) c.args.scope _ _ _ in
    rw e (search (rules, append_assoc))

pub statement-returns-in-Jump : goal.statement-returns-in-Jump
statement-returns-in-Jump u c =
    let e = ap (λ (x : Stmt). stmt_declares (numbering c.args.self.now) c.args.scope (view.stmt x)) c.in-Jump.is ∙ declares_jump (numbering c.args.self.now) c.args.scope _ in
    rw e (search (rules, append_assoc))

pub statement-returns-in-Expression : goal.statement-returns-in-Expression
statement-returns-in-Expression u c =
    let e = ap (λ (x : Stmt). stmt_declares (numbering c.args.self.now) c.args.scope (view.stmt x)) c.in-Expression.is ∙ declares_expression_stmt (numbering c.args.self.now) c.args.scope _ _ in
    rw e (search (rules, append_assoc))

pub loop_statement-returns-in_ok-items-in-For : goal.loop_statement-returns-in_ok-items-in-For
loop_statement-returns-in_ok-items-in-For u c =
    let e = ap (λ (x : Loop). loop_declares (numbering c.args.self.now) (view.loop x)) c.in-For.is ∙ declares_for_loop (numbering c.args.self.now) _ _ _ _ _ _ _ _ _ in
    rw e (search (rules, append_assoc))

pub loop_statement-returns-in_ok-items-in-ForVariables : goal.loop_statement-returns-in_ok-items-in-ForVariables
loop_statement-returns-in_ok-items-in-ForVariables u c =
    let e = ap (λ (x : Loop). loop_declares (numbering c.args.self.now) (view.loop x)) c.in-ForVariables.is ∙ declares_for_variables (numbering c.args.self.now) _ _ _ _ _ _ _ _ in
    rw e (search (rules, append_assoc))

pub loop_statement-returns-in_ok-expr-in-ForIn : goal.loop_statement-returns-in_ok-expr-in-ForIn
loop_statement-returns-in_ok-expr-in-ForIn u c =
    let e = ap (λ (x : Loop). loop_declares (numbering c.args.self.now) (view.loop x)) c.in-ForIn.is ∙ declares_for_in (numbering c.args.self.now) _ _ _ _ _ _ _ _ in
    rw e (search (rules, append_assoc))

pub loop_statement-returns-in_ok-expr-in-While : goal.loop_statement-returns-in_ok-expr-in-While
loop_statement-returns-in_ok-expr-in-While u c =
    let e = ap (λ (x : Loop). loop_declares (numbering c.args.self.now) (view.loop x)) c.in-While.is ∙ declares_while_loop (numbering c.args.self.now) _ _ _ _ _ in
    rw e (search (rules, append_assoc))

pub loop_statement-returns-in_ok-branch-in-Do : goal.loop_statement-returns-in_ok-branch-in-Do
loop_statement-returns-in_ok-branch-in-Do u c =
    let e = ap (λ (x : Loop). loop_declares (numbering c.args.self.now) (view.loop x)) c.in-Do.is ∙ declares_do_loop (numbering c.args.self.now) _ _ _ _ _ _ _ in
    rw e (search (rules, append_assoc))

pub arguments-returns : goal.arguments-returns
arguments-returns u c = rw (declares_the_arguments (numbering c.args.self.now) c.args.tree.now) (search (rules, append_assoc))

pub parameters-returns : goal.parameters-returns
parameters-returns u c = rw (declares_the_parameters (numbering c.args.self.now) c.args.last c.args.tree.now) (search (rules, append_assoc))

pub block-returns : goal.block-returns
block-returns u c = rw (declares_the_block (numbering c.args.self.now) c.args.tree.now) (search (rules, append_assoc))

pub variables-returns : goal.variables-returns
variables-returns u c = rw (declares_the_variables (numbering c.args.self.now) c.args.scope c.args.tree.now) (search (rules, append_assoc))

pub local_function-returns : goal.local_function-returns
local_function-returns u c = rw (declares_the_function (numbering c.args.self.now) c.args.scope c.args.tree.now, ← c.function_extent.ensures, ← c.body_last.ensures) (search (rules, append_assoc))

pub branch-returns : goal.branch-returns
branch-returns u c = rw (← c.scope_to.ensures) (search (rules, append_assoc))

pub loop_variables-returns : goal.loop_variables-returns
loop_variables-returns u c = rw (← c.scope_to.ensures) (search (rules, append_assoc))

pub local_variable-returns : goal.local_variable-returns
local_variable-returns u c = rw (← c.variable_extent.ensures) (search (rules, append_assoc))

pub tails-loop-tail-preserved : goal.tails-loop-tail-preserved
tails-loop-tail-preserved u c =
    turn (λ (xs : List Tail). tails_declares (numbering c.args.self.now) (tails_of xs)) (λ (x : Tail). operand_declares (numbering c.args.self.now) (view.operand x.operand)) (more_tails (numbering c.args.self.now)) c.args.all.now.items c.deref-tail-items.result.now c.loop-tail.tail-index c.tail-item.result c.loop-tail.found.items _ _ c.deref-tail-items.ensures.value c.loop-tail-test.true c.tail-item.is c.loop-tail.invariant
    c.in_ok-operand.ensures

pub tails-returns : goal.tails-returns
tails-returns u c = over (λ (xs : List Tail). tails_declares (numbering c.args.self.now) (tails_of xs)) (none_tails (numbering c.args.self.now)) c.args.all.now.items c.deref-tail-items.result.now c.loop-tail.tail-index c.loop-tail.found.items _ c.deref-tail-items.ensures.value c.loop-tail-test.false c.loop-tail.invariant

pub pieces-loop-piece-preserved : goal.pieces-loop-piece-preserved
pieces-loop-piece-preserved u c =
    turn (λ (xs : List StringPiece). pieces_declares (numbering c.args.self.now) (pieces_of xs)) (λ (x : StringPiece). value_declares (numbering c.args.self.now) (view.value x.value)) (more_pieces (numbering c.args.self.now)) c.args.all.now.items c.deref-piece-items.result.now c.loop-piece.piece-index c.piece-item.result c.loop-piece.found.items _ _ c.deref-piece-items.ensures.value c.loop-piece-test.true c.piece-item.is c.loop-piece.invariant
    c.in_ok-value.ensures

pub pieces-returns : goal.pieces-returns
pieces-returns u c = over (λ (xs : List StringPiece). pieces_declares (numbering c.args.self.now) (pieces_of xs)) (none_pieces (numbering c.args.self.now)) c.args.all.now.items c.deref-piece-items.result.now c.loop-piece.piece-index c.loop-piece.found.items _ c.deref-piece-items.ensures.value c.loop-piece-test.false c.loop-piece.invariant

pub selectors-loop-selector-preserved : goal.selectors-loop-selector-preserved
selectors-loop-selector-preserved u c =
    turn (λ (xs : List Selector). selectors_declares (numbering c.args.self.now) (selectors_of xs)) (λ (x : Selector). selector_declares (numbering c.args.self.now) (view.selector x)) (more_selectors (numbering c.args.self.now)) c.args.all.now.items c.deref-selector-items.result.now c.loop-selector.selector-index c.selector-item.result c.loop-selector.found.items _ _ c.deref-selector-items.ensures.value c.loop-selector-test.true c.selector-item.is c.loop-selector.invariant
    c.in_ok-selector.ensures

pub selectors-returns : goal.selectors-returns
selectors-returns u c = over (λ (xs : List Selector). selectors_declares (numbering c.args.self.now) (selectors_of xs)) (none_selectors (numbering c.args.self.now)) c.args.all.now.items c.deref-selector-items.result.now c.loop-selector.selector-index c.loop-selector.found.items _ c.deref-selector-items.ensures.value c.loop-selector-test.false c.loop-selector.invariant

pub cascades-loop-cascade-preserved : goal.cascades-loop-cascade-preserved
cascades-loop-cascade-preserved u c =
    turn (λ (xs : List Cascade). cascades_declares (numbering c.args.self.now) (cascades_of xs)) (λ (x : Cascade). (selectors_declares (numbering c.args.self.now) (selectors_of x.selectors.items)) ++ (value_declares (numbering c.args.self.now) (view.value x.value))) (more_cascades (numbering c.args.self.now)) c.args.all.now.items c.deref-cascade-items.result.now c.loop-cascade.cascade-index c.cascade-item.result c.loop-cascade.found.items _ _ c.deref-cascade-items.ensures.value c.loop-cascade-test.true c.cascade-item.is c.loop-cascade.invariant
    (then_more c.loop-cascade.found.items (selectors_declares (numbering c.args.self.now) (selectors_of c.cascade-item.result.selectors.items)) (value_declares (numbering c.args.self.now) (view.value c.cascade-item.result.value)) c.in_ok-selectors.ensures c.in_ok-value.ensures)

pub cascades-returns : goal.cascades-returns
cascades-returns u c = over (λ (xs : List Cascade). cascades_declares (numbering c.args.self.now) (cascades_of xs)) (none_cascades (numbering c.args.self.now)) c.args.all.now.items c.deref-cascade-items.result.now c.loop-cascade.cascade-index c.loop-cascade.found.items _ c.deref-cascade-items.ensures.value c.loop-cascade-test.false c.loop-cascade.invariant

pub items-loop-item-preserved : goal.items-loop-item-preserved
items-loop-item-preserved u c =
    turn (λ (xs : List Item). items_declares (numbering c.args.self.now) (items_of xs)) (λ (x : Item). expr_declares (numbering c.args.self.now) (view.expr x.value)) (more_items (numbering c.args.self.now)) c.args.all.now.items c.deref-item-items.result.now c.loop-item.item-index c.item-item.result c.loop-item.found.items _ _ c.deref-item-items.ensures.value c.loop-item-test.true c.item-item.is c.loop-item.invariant
    c.in_ok-expr.ensures

pub items-returns : goal.items-returns
items-returns u c = over (λ (xs : List Item). items_declares (numbering c.args.self.now) (items_of xs)) (none_items (numbering c.args.self.now)) c.args.all.now.items c.deref-item-items.result.now c.loop-item.item-index c.loop-item.found.items _ c.deref-item-items.ensures.value c.loop-item-test.false c.loop-item.invariant

pub entries-loop-entry-preserved : goal.entries-loop-entry-preserved
entries-loop-entry-preserved u c =
    turn (λ (xs : List Entry). entries_declares (numbering c.args.self.now) (entries_of xs)) (λ (x : Entry). (expr_declares (numbering c.args.self.now) (view.expr x.key)) ++ (expr_declares (numbering c.args.self.now) (view.expr x.value))) (more_entries (numbering c.args.self.now)) c.args.all.now.items c.deref-entry-items.result.now c.loop-entry.entry-index c.entry-item.result c.loop-entry.found.items _ _ c.deref-entry-items.ensures.value c.loop-entry-test.true c.entry-item.is c.loop-entry.invariant
    (then_more c.loop-entry.found.items (expr_declares (numbering c.args.self.now) (view.expr c.entry-item.result.key)) (expr_declares (numbering c.args.self.now) (view.expr c.entry-item.result.value)) c.in_ok-expr.ensures c.in_ok-expr-2.ensures)

pub entries-returns : goal.entries-returns
entries-returns u c = over (λ (xs : List Entry). entries_declares (numbering c.args.self.now) (entries_of xs)) (none_entries (numbering c.args.self.now)) c.args.all.now.items c.deref-entry-items.result.now c.loop-entry.entry-index c.loop-entry.found.items _ c.deref-entry-items.ensures.value c.loop-entry-test.false c.loop-entry.invariant

pub parameter_list-loop-parameter-preserved : goal.parameter_list-loop-parameter-preserved
parameter_list-loop-parameter-preserved u c =
    turn (λ (xs : List Parameter). parameter_list_declares (numbering c.args.self.now) c.args.extent (parameter_list_of xs)) (λ (x : Parameter). formal_declared (numbering c.args.self.now) c.args.extent (view.parameter_kind (out-Parameter x).kind) ∷ (value_declares (numbering c.args.self.now) (view.value (out-Parameter x).value))) (more_parameter_list (numbering c.args.self.now) c.args.extent) c.args.all.now.items c.deref-parameter-items.result.now c.loop-parameter.parameter-index c.parameter-item.result c.loop-parameter.found.items _ _ c.deref-parameter-items.ensures.value c.loop-parameter-test.true c.parameter-item.is c.loop-parameter.invariant
    (then_more c.loop-parameter.found.items (formal_declared (numbering c.args.self.now) c.args.extent (view.parameter_kind (out-Parameter c.parameter-item.result).kind) ∷ []) (value_declares (numbering c.args.self.now) (view.value (out-Parameter c.parameter-item.result).value)) c.in_ok-formal.ensures c.in_ok-value.ensures)

pub parameter_list-returns : goal.parameter_list-returns
parameter_list-returns u c = over (λ (xs : List Parameter). parameter_list_declares (numbering c.args.self.now) c.args.extent (parameter_list_of xs)) (none_parameter_list (numbering c.args.self.now) c.args.extent) c.args.all.now.items c.deref-parameter-items.result.now c.loop-parameter.parameter-index c.loop-parameter.found.items _ c.deref-parameter-items.ensures.value c.loop-parameter-test.false c.loop-parameter.invariant

pub statements-loop-statement-preserved : goal.statements-loop-statement-preserved
statements-loop-statement-preserved u c =
    turn (λ (xs : List Stmt). stmts_declares (numbering c.args.self.now) c.args.scope (stmts_of xs)) (λ (x : Stmt). stmt_declares (numbering c.args.self.now) c.args.scope (view.stmt x)) (more_stmts (numbering c.args.self.now) c.args.scope) c.args.all.now.items c.deref-statement-items.result.now c.loop-statement.statement-index c.statement-item.result c.loop-statement.found.items _ _ c.deref-statement-items.ensures.value c.loop-statement-test.true c.statement-item.is c.loop-statement.invariant
    c.in_ok-statement.ensures

pub statements-returns : goal.statements-returns
statements-returns u c = over (λ (xs : List Stmt). stmts_declares (numbering c.args.self.now) c.args.scope (stmts_of xs)) (none_stmts (numbering c.args.self.now) c.args.scope) c.args.all.now.items c.deref-statement-items.result.now c.loop-statement.statement-index c.loop-statement.found.items _ c.deref-statement-items.ensures.value c.loop-statement-test.false c.loop-statement.invariant

pub more_variables-loop-variable-preserved : goal.more_variables-loop-variable-preserved
more_variables-loop-variable-preserved u c =
    turn (λ (xs : List Variable). more_variables_declares (numbering c.args.self.now) c.args.scope (more_variables_of xs)) (λ (x : Variable). of_identifier (numbering c.args.self.now) (behind (value_last (identifier_place x.name) (view.value x.value)) c.args.scope) k.LocalVariable x.name ∷ value_declares (numbering c.args.self.now) (view.value x.value)) (more_more_variables (numbering c.args.self.now) c.args.scope) c.args.all.now.items c.deref-variable-items.result.now c.loop-variable.variable-index c.variable-item.result c.loop-variable.found.items _ _ c.deref-variable-items.ensures.value c.loop-variable-test.true c.variable-item.is c.loop-variable.invariant
    c.in_ok-local_variable.ensures

pub more_variables-returns : goal.more_variables-returns
more_variables-returns u c = over (λ (xs : List Variable). more_variables_declares (numbering c.args.self.now) c.args.scope (more_variables_of xs)) (none_more_variables (numbering c.args.self.now) c.args.scope) c.args.all.now.items c.deref-variable-items.result.now c.loop-variable.variable-index c.loop-variable.found.items _ c.deref-variable-items.ensures.value c.loop-variable-test.false c.loop-variable.invariant

pub switch_parts-loop-part-preserved : goal.switch_parts-loop-part-preserved
switch_parts-loop-part-preserved u c =
    turn (λ (xs : List SwitchPart). switch_parts_declares (numbering c.args.self.now) (switch_parts_of xs)) (λ (x : SwitchPart). (value_declares (numbering c.args.self.now) (view.value x.value)) ++ (stmts_declares (numbering c.args.self.now) (record { place = x.colon; last = stmts_last x.colon (stmts_of x.statements.items) }) (stmts_of x.statements.items))) (more_switch_parts (numbering c.args.self.now)) c.args.all.now.items c.deref-part-items.result.now c.loop-part.part-index c.part-item.result c.loop-part.found.items _ _ c.deref-part-items.ensures.value c.loop-part-test.true c.part-item.is c.loop-part.invariant
    (then_more c.loop-part.found.items (value_declares (numbering c.args.self.now) (view.value c.part-item.result.value)) (stmts_declares (numbering c.args.self.now) (record { place = c.part-item.result.colon; last = stmts_last c.part-item.result.colon (stmts_of c.part-item.result.statements.items) }) (stmts_of c.part-item.result.statements.items)) c.in_ok-value.ensures (c.in_ok-statements.ensures ∙ ap (λ (s : Scope). c.value.new.found.items ++ stmts_declares (numbering c.args.self.now) s (stmts_of c.part-item.result.statements.items)) c.scope_behind-scope.ensures))

pub switch_parts-returns : goal.switch_parts-returns
switch_parts-returns u c = over (λ (xs : List SwitchPart). switch_parts_declares (numbering c.args.self.now) (switch_parts_of xs)) (none_switch_parts (numbering c.args.self.now)) c.args.all.now.items c.deref-part-items.result.now c.loop-part.part-index c.loop-part.found.items _ c.deref-part-items.ensures.value c.loop-part-test.false c.loop-part.invariant

pub try_parts-loop-part-preserved : goal.try_parts-loop-part-preserved
try_parts-loop-part-preserved u c =
    turn (λ (xs : List TryPart). try_parts_declares (numbering c.args.self.now) (try_parts_of xs)) (λ (x : TryPart). (catch_declared (numbering c.args.self.now) (block_last (block_of x.block)) (view.try_kind x.kind)) ++ (block_declares (numbering c.args.self.now) (block_of x.block))) (more_try_parts (numbering c.args.self.now)) c.args.all.now.items c.deref-part-items.result.now c.loop-part.part-index c.part-item.result c.loop-part.found.items _ _ c.deref-part-items.ensures.value c.loop-part-test.true c.part-item.is c.loop-part.invariant
    (then_more c.loop-part.found.items (catch_declared (numbering c.args.self.now) (block_last (block_of c.part-item.result.block)) (view.try_kind c.part-item.result.kind)) (block_declares (numbering c.args.self.now) (block_of c.part-item.result.block)) c.in_ok-catch.ensures c.in_ok-block.ensures)

pub try_parts-returns : goal.try_parts-returns
try_parts-returns u c = over (λ (xs : List TryPart). try_parts_declares (numbering c.args.self.now) (try_parts_of xs)) (none_try_parts (numbering c.args.self.now)) c.args.all.now.items c.deref-part-items.result.now c.loop-part.part-index c.loop-part.found.items _ c.deref-part-items.ensures.value c.loop-part-test.false c.loop-part.invariant
