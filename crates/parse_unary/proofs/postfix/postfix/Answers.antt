use Rattle.std.proofs.Common.{◌∙◌, sym, ap}
use Rattle.std.proofs.lemmas.Result.{err_from_is_err_and}
use Rattle.dart_tree.specs.Tree as tree
use Rattle.grammar_laws.proofs.Cuts.{gave}
use Rattle.token_codes.specs.Leaves.{one_of}
use Rattle.token_cursor.specs.Gives.{same}
use Rattle.syntax_readers.specs.Combinators.{Open}
use Rattle.syntax_readers.specs.Levels.{postfix, step_signs}
use Rattle.parse_unary.specs.Views.{selected_reader, selected_view, open_operand, open_operand_height}
use Rattle.parse_unary.proofs.Staged.{passes_selected, passes_flat, low_roomy, joined_high, joined_low, postfix_fails, step_absent, step_fails, step_gives, given_open}
use Rattle.parse_unary.proofs.postfix.postfix.Goals as goal

pub returns-in_err-parts : goal.returns-in_err-parts
returns-in_err-parts g c =
    let p = err_from_is_err_and c.from_residual.result c.from_residual.ensures.1 in
    let d = c.args.depth in
    rw (p.1, p.2) (passes_selected open_operand open_operand_height d d (selected_reader d c.args.cursor.now) (postfix d (selected_reader d) c.args.cursor.now) c.in_err-parts.field-0.0 c.selected.new.cursor
    (λ rest e. postfix_fails d c.args.cursor.now rest e) c.in_err-parts.ensures)

pub returns-then-not-sees_step : goal.returns-then-not-sees_step
returns-then-not-sees_step g c =
    let r = c.in_ok-parts.ensures in
    let d = c.args.depth in
    let h = c.in_ok-parts.tall in
    let x = selected_view c.in_ok-parts.parts in
    let y = open_operand c.in_ok-alone.alone in
    let high = joined_high x y h c.in_ok-alone.ensures r.1 in (
      step_absent d c.args.cursor.now c.selected.new.cursor x r.0 (sym c.if-not-sees_step.ensures.comes) ∙ given_open x y c.selected.new.cursor c.in_ok-alone.ensures,
      high,
      low_roomy y.0 h d c.requires.some high (joined_low x y h d c.in_ok-alone.ensures r.2),
    )

pub returns-in_err-operator : goal.returns-in_err-operator
returns-in_err-operator g c =
    let p = err_from_is_err_and c.from_residual-in_err-operator.result c.from_residual-in_err-operator.ensures.1 in
    let r = c.in_ok-parts.ensures in
    let d = c.args.depth in
    rw (p.1, p.2) (passes_flat same (one_of step_signs c.selected.new.cursor) open_operand open_operand_height d (postfix d (selected_reader d) c.args.cursor.now) c.in_err-operator.field-0.0 c.one_of.new.cursor
    (λ rest e. step_fails d c.args.cursor.now c.selected.new.cursor rest (selected_view c.in_ok-parts.parts) r.0 (sym c.if-not-sees_step.ensures.comes) e) c.in_err-operator.ensures)

pub returns : goal.returns
returns g c =
    let r = c.in_ok-parts.ensures in
    let d = c.args.depth in (
      step_gives d c.args.cursor.now c.selected.new.cursor c.one_of.new.cursor (selected_view c.in_ok-parts.parts) c.in_ok-operator.operator r.0 (sym c.if-not-sees_step.ensures.comes) c.in_ok-operator.ensures
          ∙ ap (λ (y : Open tree.Operand). gave y c.one_of.new.cursor) (sym c.in_ok-operand.ensures.same),
      c.in_ok-operand.ensures.high,
      c.in_ok-operand.ensures.low,
    )
