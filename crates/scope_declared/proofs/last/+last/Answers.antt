use Rattle.std.proofs.Common.{List, ◌∙◌, ap, rules, Option}
use Rattle.dart_base.specs.declared.place.Place.{Place}
use Rattle.dart_tree.specs.declared.expression.Tail.{Tail}
use Rattle.dart_tree.specs.declared.expression.StringPiece.{StringPiece}
use Rattle.dart_tree.specs.declared.expression.Cascade.{Cascade}
use Rattle.dart_tree.specs.declared.expression.Expr.{Expr}
use Rattle.dart_tree.specs.declared.expression.Operand.{Operand}
use Rattle.dart_tree.specs.declared.expression.Primary.{Primary}
use Rattle.dart_tree.specs.declared.expression.Value.{Value}
use Rattle.dart_tree.specs.declared.statement.Body.{Body}
use Rattle.dart_tree.specs.Lists.{tails_of, pieces_of, selectors_of, cascades_of}
use Rattle.dart_tree.specs.View as view
use Rattle.scope_declared.specs.Last.{body_last, cascades_last, end_or, expr_last, operand_last, operator_last, pieces_last, primary_last, selectors_last, tails_last, value_last}
use Rattle.scope_declared.proofs.Ending.{last_assign, last_plain, last_throw, last_conditional, last_binary, last_is_type, last_as_type, last_prefix, last_postfix, last_primary, last_super_access, last_bare_super, last_atom, last_text, last_list_literal, last_map_literal, last_new_object, last_function_literal, last_parenthesized, last_omitted, last_given, last_arrow_body, last_block_body, last_no_body, more_tails, none_tails, more_pieces, none_pieces, more_cascades, none_cascades, turn, over}
use Rattle.scope_declared.proofs.last.+last.Goals as goal

pub expr_last-returns-in-Assign : goal.expr_last-returns-in-Assign
expr_last-returns-in-Assign u c =
    let e = ap (λ (x : Expr). expr_last c.args.before (view.expr x)) c.in-Assign.is ∙ last_assign c.args.before _ _ _ in
    rw e (first_of (cc, search rules))

pub expr_last-returns-in-Plain : goal.expr_last-returns-in-Plain
expr_last-returns-in-Plain u c =
    let e = ap (λ (x : Expr). expr_last c.args.before (view.expr x)) c.in-Plain.is ∙ last_plain c.args.before _ _ in
    rw e (first_of (cc, search rules))

pub expr_last-returns-in-Throw : goal.expr_last-returns-in-Throw
expr_last-returns-in-Throw u c =
    let e = ap (λ (x : Expr). expr_last c.args.before (view.expr x)) c.in-Throw.is ∙ last_throw c.args.before _ _ in
    rw e (first_of (cc, search rules))

pub operand_last-returns-in-Conditional : goal.operand_last-returns-in-Conditional
operand_last-returns-in-Conditional u c =
    let e = ap (λ (x : Operand). operand_last c.args.before (view.operand x)) c.in-Conditional.is ∙ last_conditional c.args.before _ _ _ _ _ in
    rw e (first_of (cc, search rules))

pub operand_last-returns-in-Binary : goal.operand_last-returns-in-Binary
operand_last-returns-in-Binary u c =
    let e = ap (λ (x : Operand). operand_last c.args.before (view.operand x)) c.in-Binary.is ∙ last_binary c.args.before _ _ in
    rw e (first_of (cc, search rules))

pub operand_last-returns-in-Is : goal.operand_last-returns-in-Is
operand_last-returns-in-Is u c =
    let e = ap (λ (x : Operand). operand_last c.args.before (view.operand x)) c.in-Is.is ∙ last_is_type c.args.before _ _ _ _ in
    rw e (first_of (cc, search rules))

pub operand_last-returns-in-As : goal.operand_last-returns-in-As
operand_last-returns-in-As u c =
    let e = ap (λ (x : Operand). operand_last c.args.before (view.operand x)) c.in-As.is ∙ last_as_type c.args.before _ _ _ in
    rw e (first_of (cc, search rules))

pub operand_last-returns-in-Prefix : goal.operand_last-returns-in-Prefix
operand_last-returns-in-Prefix u c =
    let e = ap (λ (x : Operand). operand_last c.args.before (view.operand x)) c.in-Prefix.is ∙ last_prefix c.args.before _ _ in
    rw e (first_of (cc, search rules))

pub operand_last-returns-in-Postfix : goal.operand_last-returns-in-Postfix
operand_last-returns-in-Postfix u c =
    let e = ap (λ (x : Operand). operand_last c.args.before (view.operand x)) c.in-Postfix.is ∙ last_postfix c.args.before _ _ _ in
    rw e (first_of (cc, search rules))

pub operand_last-returns-in-Primary : goal.operand_last-returns-in-Primary
operand_last-returns-in-Primary u c =
    let e = ap (λ (x : Operand). operand_last c.args.before (view.operand x)) c.in-Primary.is ∙ last_primary c.args.before _ in
    rw e (first_of (cc, search rules))

pub primary_last-returns-in-Super : goal.primary_last-returns-in-Super
primary_last-returns-in-Super u c =
    let e = ap (λ (x : Primary). primary_last c.args.before (view.primary x)) c.in-Super.is ∙ last_super_access c.args.before _ _ in
    rw e (first_of (cc, search rules))

pub primary_last-returns-in-BareSuper : goal.primary_last-returns-in-BareSuper
primary_last-returns-in-BareSuper u c =
    let e = ap (λ (x : Primary). primary_last c.args.before (view.primary x)) c.in-BareSuper.is ∙ last_bare_super c.args.before _ in
    rw e (first_of (cc, search rules))

pub primary_last-returns-in-Atom : goal.primary_last-returns-in-Atom
primary_last-returns-in-Atom u c =
    let e = ap (λ (x : Primary). primary_last c.args.before (view.primary x)) c.in-Atom.is ∙ last_atom c.args.before _ in
    rw e (first_of (cc, search rules))

pub primary_last-returns-in-Text : goal.primary_last-returns-in-Text
primary_last-returns-in-Text u c =
    let e = ap (λ (x : Primary). primary_last c.args.before (view.primary x)) c.in-Text.is ∙ last_text c.args.before _ in
    rw e (first_of (cc, search rules))

pub primary_last-returns-in-List : goal.primary_last-returns-in-List
primary_last-returns-in-List u c =
    let e = ap (λ (x : Primary). primary_last c.args.before (view.primary x)) c.in-List.is ∙ last_list_literal c.args.before _ _ _ _ _ in
    rw e (first_of (cc, search rules))

pub primary_last-returns-in-Map : goal.primary_last-returns-in-Map
primary_last-returns-in-Map u c =
    let e = ap (λ (x : Primary). primary_last c.args.before (view.primary x)) c.in-Map.is ∙ last_map_literal c.args.before _ _ _ _ _ in
    rw e (first_of (cc, search rules))

pub primary_last-returns-in-New : goal.primary_last-returns-in-New
primary_last-returns-in-New u c =
    let e = ap (λ (x : Primary). primary_last c.args.before (view.primary x)) c.in-New.is ∙ last_new_object c.args.before _ _ _ _ in
    rw e (first_of (cc, search rules))

pub primary_last-returns-in-Function : goal.primary_last-returns-in-Function
primary_last-returns-in-Function u c =
    let e = ap (λ (x : Primary). primary_last c.args.before (view.primary x)) c.in-Function.is ∙ last_function_literal c.args.before _ _ in
    rw e (first_of (cc, search rules))

pub primary_last-returns-in-Parenthesized : goal.primary_last-returns-in-Parenthesized
primary_last-returns-in-Parenthesized u c =
    let e = ap (λ (x : Primary). primary_last c.args.before (view.primary x)) c.in-Parenthesized.is ∙ last_parenthesized c.args.before _ _ _ in
    rw e (first_of (cc, search rules))

pub value_last-returns-in-Omitted : goal.value_last-returns-in-Omitted
value_last-returns-in-Omitted u c =
    let e = ap (λ (x : Value). value_last c.args.before (view.value x)) c.in-Omitted.is ∙ last_omitted c.args.before in
    rw e (first_of (cc, search rules))

pub value_last-returns-in-Given : goal.value_last-returns-in-Given
value_last-returns-in-Given u c =
    let e = ap (λ (x : Value). value_last c.args.before (view.value x)) c.in-Given.is ∙ last_given c.args.before _ _ in
    rw e (first_of (cc, search rules))

pub body_last-returns-in-Arrow : goal.body_last-returns-in-Arrow
body_last-returns-in-Arrow u c =
    let e = ap (λ (x : Body). body_last (view.body x)) c.in-Arrow.is ∙ last_arrow_body _ _ _ in
    rw e (first_of (cc, search rules))

pub body_last-returns-in-Block : goal.body_last-returns-in-Block
body_last-returns-in-Block u c =
    let e = ap (λ (x : Body). body_last (view.body x)) c.in-Block.is ∙ last_block_body _ in
    rw e (first_of (cc, search rules))

pub body_last-returns-in-Omitted : goal.body_last-returns-in-Omitted
body_last-returns-in-Omitted u c =
    let e = ap (λ (x : Body). body_last (view.body x)) c.in-Omitted.is ∙ last_no_body _ in
    rw e (first_of (cc, search rules))

pub tails_last-loop-tail-preserved : goal.tails_last-loop-tail-preserved
tails_last-loop-tail-preserved u c =
    turn (λ (before : Place) (xs : List Tail). tails_last before (tails_of xs)) (λ (x : Tail). operand_last (operator_last x.operator) (view.operand x.operand)) more_tails c.args.all.now.items c.deref-tail-items.result.now c.loop-tail.tail-index c.tail-item.result c.loop-tail.last _ _ c.deref-tail-items.ensures.value c.loop-tail-test.true c.tail-item.is c.loop-tail.invariant
    (c.operand_last-last.ensures ∙ ap (λ (b : Place). operand_last b (view.operand c.tail-item.result.operand)) c.operator_last.ensures)

pub tails_last-returns : goal.tails_last-returns
tails_last-returns u c = over (λ (before : Place) (xs : List Tail). tails_last before (tails_of xs)) none_tails c.args.all.now.items c.deref-tail-items.result.now c.loop-tail.tail-index c.loop-tail.last _ c.deref-tail-items.ensures.value c.loop-tail-test.false c.loop-tail.invariant

pub pieces_last-loop-piece-preserved : goal.pieces_last-loop-piece-preserved
pieces_last-loop-piece-preserved u c =
    turn (λ (before : Place) (xs : List StringPiece). pieces_last before (pieces_of xs)) (λ (x : StringPiece). value_last x.place (view.value x.value)) more_pieces c.args.all.now.items c.deref-piece-items.result.now c.loop-piece.piece-index c.piece-item.result c.loop-piece.last _ _ c.deref-piece-items.ensures.value c.loop-piece-test.true c.piece-item.is c.loop-piece.invariant
    (c.value_last-last.ensures)

pub pieces_last-returns : goal.pieces_last-returns
pieces_last-returns u c = over (λ (before : Place) (xs : List StringPiece). pieces_last before (pieces_of xs)) none_pieces c.args.all.now.items c.deref-piece-items.result.now c.loop-piece.piece-index c.loop-piece.last _ c.deref-piece-items.ensures.value c.loop-piece-test.false c.loop-piece.invariant

pub cascades_last-loop-cascade-preserved : goal.cascades_last-loop-cascade-preserved
cascades_last-loop-cascade-preserved u c =
    turn (λ (before : Place) (xs : List Cascade). cascades_last before (cascades_of xs)) (λ (x : Cascade). value_last (selectors_last x.dots (selectors_of x.selectors.items)) (view.value x.value)) more_cascades c.args.all.now.items c.deref-cascade-items.result.now c.loop-cascade.cascade-index c.cascade-item.result c.loop-cascade.last _ _ c.deref-cascade-items.ensures.value c.loop-cascade-test.true c.cascade-item.is c.loop-cascade.invariant
    (c.value_last-last.ensures ∙ ap (λ (b : Place). value_last b (view.value c.cascade-item.result.value)) c.selectors_last.ensures)

pub cascades_last-returns : goal.cascades_last-returns
cascades_last-returns u c = over (λ (before : Place) (xs : List Cascade). cascades_last before (cascades_of xs)) none_cascades c.args.all.now.items c.deref-cascade-items.result.now c.loop-cascade.cascade-index c.loop-cascade.last _ c.deref-cascade-items.ensures.value c.loop-cascade-test.false c.loop-cascade.invariant

pub arrow_last-returns-in-None : goal.arrow_last-returns-in-None
arrow_last-returns-in-None u c =
    let e = ap (λ (o : Option Place). end_or o (expr_last c.args.arrow (view.expr c.args.value.now))) c.in-None.is in
    rw e (first_of (cc, search rules))

pub arrow_last-returns-in-Some : goal.arrow_last-returns-in-Some
arrow_last-returns-in-Some u c =
    let e = ap (λ (o : Option Place). end_or o (expr_last c.args.arrow (view.expr c.args.value.now))) c.in-Some.is in
    rw e (first_of (cc, search rules))
