use Rattle.std.proofs.Common.{◌∙◌, List, sym, ap}
use Rattle.dart_tree.specs.declared.expression.Operand.{Operand}
use Rattle.dart_tree.specs.declared.expression.Selector.{Selector}
use Rattle.dart_tree.specs.Lists.{selectors_of}
use Rattle.dart_tree.specs.View as view
use Rattle.dart_tree.proofs.Rows.{view_primary, view_postfix}
use Rattle.syntax_readers.specs.Levels.{assigns}
use Rattle.parse_unary.specs.Views.{postfix_assigns}
use Rattle.parse_unary.proofs.Targets.{assigns_is}
use Rattle.parse_unary.proofs.target.assigns.Goals as goal

pub returns-in-Primary : goal.returns-in-Primary
returns-in-Primary c =
    c.primary_assigns.ensures
    ∙ sym (ap (λ (x : Operand). assigns (view.operand x)) c.in-Primary.is ∙ ap assigns (view_primary c.in-Primary.primary))

pub returns-in-Postfix : goal.returns-in-Postfix
returns-in-Postfix c =
    let w = c.in-Postfix in
    c.postfix_assigns.ensures
    ∙ ap (λ (l : List Selector). postfix_assigns w.operator (selectors_of l)) c.deref.ensures.value
    ∙ sym (ap (λ (x : Operand). assigns (view.operand x)) w.is
    ∙ ap assigns (view_postfix w.primary w.selectors w.operator)
    ∙ assigns_is (view.primary w.primary.value) (selectors_of w.selectors.items) w.operator)
