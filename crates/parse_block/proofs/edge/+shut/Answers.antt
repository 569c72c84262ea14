use Rattle.std.proofs.Common.{◌∙◌, sym, ap}
use Rattle.dart_syntax.specs.Statements.{is_shut, is_shut_loop}
use Rattle.dart_tree.specs.declared.statement.Loop.{Loop}
use Rattle.dart_tree.specs.declared.statement.Stmt.{Stmt}
use Rattle.dart_tree.specs.View as view
use Rattle.dart_tree.proofs.Rows.{view_labelled, view_for_loop, view_for_variables, view_for_in, view_while_loop, view_do_loop}
use Rattle.parse_block.proofs.Ends.{shut_behind}
use Rattle.parse_block.proofs.edge.+shut.Goals as goal

pub is_shut-returns-in-Labelled : goal.is_shut-returns-in-Labelled
is_shut-returns-in-Labelled t c =
    c.is_shut.ensures ∙ ap (λ (x : Stmt). is_shut (view.stmt x)) c.deref.ensures
    ∙ sym (ap (λ (x : Stmt). is_shut (view.stmt x)) c.in-Labelled.is ∙ ap is_shut (view_labelled c.in-Labelled.field-0 c.in-Labelled.body) ∙ shut_behind c.in-Labelled.field-0.items (view.stmt c.in-Labelled.body.value))

pub is_shut_loop-returns-in-For : goal.is_shut_loop-returns-in-For
unfolding is_shut_loop
is_shut_loop-returns-in-For t c =
    c.is_shut.ensures ∙ ap (λ (x : Stmt). is_shut (view.stmt x)) c.deref.ensures
    ∙ sym (ap (λ (x : Loop). is_shut_loop (view.loop x)) c.in-For.is ∙ ap is_shut_loop (view_for_loop c.in-For.word c.in-For.opening c.in-For.start c.in-For.first_semicolon c.in-For.condition c.in-For.second_semicolon c.in-For.updates c.in-For.closing c.in-For.body))

pub is_shut_loop-returns-in-ForVariables : goal.is_shut_loop-returns-in-ForVariables
unfolding is_shut_loop
is_shut_loop-returns-in-ForVariables t c =
    c.is_shut-in-ForVariables.ensures ∙ ap (λ (x : Stmt). is_shut (view.stmt x)) c.deref-in-ForVariables.ensures
    ∙ sym (ap (λ (x : Loop). is_shut_loop (view.loop x)) c.in-ForVariables.is ∙ ap is_shut_loop (view_for_variables c.in-ForVariables.word c.in-ForVariables.opening c.in-ForVariables.variables c.in-ForVariables.condition c.in-ForVariables.semicolon c.in-ForVariables.updates c.in-ForVariables.closing c.in-ForVariables.body))

pub is_shut_loop-returns-in-ForIn : goal.is_shut_loop-returns-in-ForIn
unfolding is_shut_loop
is_shut_loop-returns-in-ForIn t c =
    c.is_shut-in-ForIn.ensures ∙ ap (λ (x : Stmt). is_shut (view.stmt x)) c.deref-in-ForIn.ensures
    ∙ sym (ap (λ (x : Loop). is_shut_loop (view.loop x)) c.in-ForIn.is ∙ ap is_shut_loop (view_for_in c.in-ForIn.word c.in-ForIn.opening c.in-ForIn.kind c.in-ForIn.name c.in-ForIn.in_word c.in-ForIn.iterated c.in-ForIn.closing c.in-ForIn.body))

pub is_shut_loop-returns-in-While : goal.is_shut_loop-returns-in-While
unfolding is_shut_loop
is_shut_loop-returns-in-While t c =
    c.is_shut-in-While.ensures ∙ ap (λ (x : Stmt). is_shut (view.stmt x)) c.deref-in-While.ensures
    ∙ sym (ap (λ (x : Loop). is_shut_loop (view.loop x)) c.in-While.is ∙ ap is_shut_loop (view_while_loop c.in-While.word c.in-While.opening c.in-While.condition c.in-While.closing c.in-While.body))

pub is_shut_loop-returns-in-Do : goal.is_shut_loop-returns-in-Do
unfolding is_shut_loop
is_shut_loop-returns-in-Do t c = sym (ap (λ (x : Loop). is_shut_loop (view.loop x)) c.in-Do.is ∙ ap is_shut_loop (view_do_loop c.in-Do.word c.in-Do.body c.in-Do.while_word c.in-Do.opening c.in-Do.condition c.in-Do.closing c.in-Do.semicolon))
