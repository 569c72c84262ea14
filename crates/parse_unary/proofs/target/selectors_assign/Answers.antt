use Rattle.std.proofs.Common.{◌-◌, ◌∙◌, length, refl, sym, ap, arith}
use Rattle.dart_tree.specs.declared.expression.Selector.{Selector}
use Rattle.dart_tree.specs.View as view
use Rattle.dart_syntax.specs.Expressions.{assigns}
use Rattle.parse_unary.proofs.Targets.{selectors_last}
use Rattle.parse_unary.proofs.target.selectors_assign.Goals as goal

pub returns : goal.returns
returns c =
    let xs = c.args.selectors.now in
    c.selector_assigns.ensures
    ∙ ap (λ (x : Selector). assigns (view.selector x)) c.index-selectors-last.is
    ∙ sym (selectors_last xs (length xs - 1) c.index-selectors-last.result (omega (arith, c.if-count-eq0.false)) refl)
