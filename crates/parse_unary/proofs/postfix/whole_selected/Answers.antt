use Rattle.std.proofs.lemmas.Result.{err_from_is_err_and}
use Rattle.syntax_readers.specs.Levels.{whole}
use Rattle.parse_unary.specs.Views.{selected_reader, selected_view, open_operand, open_operand_height}
use Rattle.parse_unary.proofs.Staged.{passes_selected, low_whole, whole_fails, whole_refuses, whole_gives, joined_high, joined_low}
use Rattle.std.proofs.Common.{sym}
use Rattle.parse_unary.proofs.postfix.whole_selected.Goals as goal

pub returns-in_err-parts : goal.returns-in_err-parts
returns-in_err-parts g c =
    let p = err_from_is_err_and c.from_residual.result c.from_residual.ensures.1 in
    let d = c.args.depth in
    rw (p.1, p.2) (passes_selected open_operand open_operand_height d d (selected_reader d c.args.cursor.now) (whole (selected_reader d) c.args.cursor.now) c.in_err-parts.field-0.0 c.selected.new.cursor
    (λ rest e. whole_fails d c.args.cursor.now rest e) c.in_err-parts.ensures)

pub returns-then-is_bare : goal.returns-then-is_bare
returns-then-is_bare g c =
    let r = c.in_ok-parts.ensures in
    whole_refuses c.args.depth c.args.cursor.now c.selected.new.cursor (selected_view c.in_ok-parts.parts) (open_operand (c.in_ok-operand.operand, c.in_ok-operand.half)) r.0 c.in_ok-operand.ensures (sym c.if-is_bare.ensures)

pub returns : goal.returns
returns g c =
    let r = c.in_ok-parts.ensures in
    let d = c.args.depth in
    let x = selected_view c.in_ok-parts.parts in
    let y = open_operand (c.in_ok-operand.operand, c.in_ok-operand.half) in (
      whole_gives d c.args.cursor.now c.selected.new.cursor x y r.0 c.in_ok-operand.ensures (sym c.if-is_bare.ensures),
      joined_high x y c.in_ok-parts.tall c.in_ok-operand.ensures r.1,
      low_whole y.0 c.in_ok-parts.tall d (sym c.if-is_bare.ensures) (joined_low x y c.in_ok-parts.tall d c.in_ok-operand.ensures r.2),
    )
