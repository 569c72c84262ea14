use Rattle.std.proofs.Common.{◌∙◌, ap, rules}
use Rattle.dart_tree.specs.declared.statement.Stmt.{Stmt}
use Rattle.dart_tree.specs.declared.statement.Loop.{Loop}
use Rattle.dart_tree.specs.View as view
use Rattle.scope_declared.specs.Last.{loop_last, stmt_last}
use Rattle.scope_declared.proofs.Ending.{last_labelled, last_block_stmt, last_variables_stmt, last_function_stmt, last_if_stmt, last_if_else, last_loop, last_switch_stmt, last_try_stmt, last_return_stmt, last_jump, last_expression_stmt, last_for_loop, last_for_variables, last_for_in, last_while_loop, last_do_loop}
use Rattle.scope_declared.proofs.last.+last_of_statement.Goals as goal

pub stmt_last-returns-in-Labelled : goal.stmt_last-returns-in-Labelled
stmt_last-returns-in-Labelled u c =
    let e = ap (λ (x : Stmt). stmt_last (view.stmt x)) c.in-Labelled.is ∙ last_labelled _ _ in
    rw e (first_of (cc, search rules))

pub stmt_last-returns-in-Block : goal.stmt_last-returns-in-Block
stmt_last-returns-in-Block u c =
    let e = ap (λ (x : Stmt). stmt_last (view.stmt x)) c.in-Block.is ∙ last_block_stmt _ in
    rw e (first_of (cc, search rules))

pub stmt_last-returns-in-Variables : goal.stmt_last-returns-in-Variables
stmt_last-returns-in-Variables u c =
    let e = ap (λ (x : Stmt). stmt_last (view.stmt x)) c.in-Variables.is ∙ last_variables_stmt _ in
    rw e (first_of (cc, search rules))

pub stmt_last-returns-in-Function : goal.stmt_last-returns-in-Function
stmt_last-returns-in-Function u c =
    let e = ap (λ (x : Stmt). stmt_last (view.stmt x)) c.in-Function.is ∙ last_function_stmt _ in
    rw e (first_of (cc, search rules))

pub stmt_last-returns-in-If : goal.stmt_last-returns-in-If
stmt_last-returns-in-If u c =
    let e = ap (λ (x : Stmt). stmt_last (view.stmt x)) c.in-If.is ∙ last_if_stmt _ _ _ _ _ in
    rw e (first_of (cc, search rules))

pub stmt_last-returns-in-IfElse : goal.stmt_last-returns-in-IfElse
stmt_last-returns-in-IfElse u c =
    let e = ap (λ (x : Stmt). stmt_last (view.stmt x)) c.in-IfElse.is ∙ last_if_else _ _ _ _ _ _ _ in
    rw e (first_of (cc, search rules))

pub stmt_last-returns-in-Loop : goal.stmt_last-returns-in-Loop
stmt_last-returns-in-Loop u c =
    let e = ap (λ (x : Stmt). stmt_last (view.stmt x)) c.in-Loop.is ∙ last_loop _ in
    rw e (first_of (cc, search rules))

pub stmt_last-returns-in-Switch : goal.stmt_last-returns-in-Switch
stmt_last-returns-in-Switch u c =
    let e = ap (λ (x : Stmt). stmt_last (view.stmt x)) c.in-Switch.is ∙ last_switch_stmt _ _ _ _ _ _ _ in
    rw e (first_of (cc, search rules))

pub stmt_last-returns-in-Try : goal.stmt_last-returns-in-Try
stmt_last-returns-in-Try u c =
    let e = ap (λ (x : Stmt). stmt_last (view.stmt x)) c.in-Try.is ∙ last_try_stmt _ _ _ in
    rw e (first_of (cc, search rules))

pub stmt_last-returns-in-Return : goal.stmt_last-returns-in-Return
stmt_last-returns-in-Return u c =
    let e = ap (λ (x : Stmt). stmt_last (view.stmt x)) c.in-Return.is ∙ last_return_stmt _ _ _ in
    rw e (first_of (cc, search rules))

pub stmt_last-returns-in-Jump : goal.stmt_last-returns-in-Jump
stmt_last-returns-in-Jump u c =
    let e = ap (λ (x : Stmt). stmt_last (view.stmt x)) c.in-Jump.is ∙ last_jump _ in
    rw e (first_of (cc, search rules))

pub stmt_last-returns-in-Expression : goal.stmt_last-returns-in-Expression
stmt_last-returns-in-Expression u c =
    let e = ap (λ (x : Stmt). stmt_last (view.stmt x)) c.in-Expression.is ∙ last_expression_stmt _ _ in
    rw e (first_of (cc, search rules))

pub loop_last-returns-in-For : goal.loop_last-returns-in-For
loop_last-returns-in-For u c =
    let e = ap (λ (x : Loop). loop_last (view.loop x)) c.in-For.is ∙ last_for_loop _ _ _ _ _ _ _ _ _ in
    rw e (first_of (cc, search rules))

pub loop_last-returns-in-ForVariables : goal.loop_last-returns-in-ForVariables
loop_last-returns-in-ForVariables u c =
    let e = ap (λ (x : Loop). loop_last (view.loop x)) c.in-ForVariables.is ∙ last_for_variables _ _ _ _ _ _ _ _ in
    rw e (first_of (cc, search rules))

pub loop_last-returns-in-ForIn : goal.loop_last-returns-in-ForIn
loop_last-returns-in-ForIn u c =
    let e = ap (λ (x : Loop). loop_last (view.loop x)) c.in-ForIn.is ∙ last_for_in _ _ _ _ _ _ _ _ in
    rw e (first_of (cc, search rules))

pub loop_last-returns-in-While : goal.loop_last-returns-in-While
loop_last-returns-in-While u c =
    let e = ap (λ (x : Loop). loop_last (view.loop x)) c.in-While.is ∙ last_while_loop _ _ _ _ _ in
    rw e (first_of (cc, search rules))

pub loop_last-returns-in-Do : goal.loop_last-returns-in-Do
loop_last-returns-in-Do u c =
    let e = ap (λ (x : Loop). loop_last (view.loop x)) c.in-Do.is ∙ last_do_loop _ _ _ _ _ _ _ in
    rw e (first_of (cc, search rules))
