use Rattle.std.proofs.Common.{◌∙◌, ap, sym}
use Rattle.dart_tree.specs.declared.expression.Expr.{Expr}
use Rattle.dart_tree.specs.View as view
use Rattle.translation.specs.Statements as s
use Rattle.lower_clause.proofs.FirstKind.{given_first, omitted_first}
use Rattle.lower_clause.proofs.case.kind_of_cases.Goals as goal

pub returns-in-Given : goal.returns-in-Given
returns-in-Given c =
    c.kind_of_literal.ensures ∙ ap s.kind_of_literal (c.in_ok-of-in-Given.ensures ∙ ap (λ (x : Expr). s.literal_of (view.expr x)) c.deref.ensures)
    ∙ sym (given_first c.args.parts.now.items c.deref-one-items.result.now c.loop-one.one-index c.one-item.result c.in-Given.field-0 c.in-Given.tree
    c.deref-one-items.ensures.value c.loop-one-test.true c.one-item.is c.in-Given.is) ∙ c.loop-one.invariant

pub loop-one-preserved : goal.loop-one-preserved
loop-one-preserved c =
    sym (omitted_first c.args.parts.now.items c.deref-one-items.result.now c.loop-one.one-index c.one-item.result
    c.deref-one-items.ensures.value c.loop-one-test.true c.one-item.is c.in-Omitted.is) ∙ c.loop-one.invariant
