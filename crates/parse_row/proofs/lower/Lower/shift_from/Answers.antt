use Rattle.std.proofs.Common.{◌≡◌, ◌∙◌, refl, sym, ap, arith}
use Rattle.std.proofs.lemmas.Result.{err_from_is_err_and}
use Rattle.dart_tree.specs.Depth as height
use Rattle.dart_tree.specs.Lists.{tails_of}
use Rattle.dart_tree.specs.Tree as tree
use Rattle.dart_tree.specs.View as view
use Rattle.grammar_laws.proofs.Cuts.{gave}
use Rattle.token_cursor.proofs.Passing.{passes}
use Rattle.parse_unary.specs.Views.{open_operand, open_operand_height}
use Rattle.parse_row.specs.Rows.{shifts_behind, shift_from, view_tails, open_tails_height}
use Rattle.parse_row.proofs.Behind.{binary_height, shift_stops, shift_fails, shift_gives}
use Rattle.parse_row.proofs.lower.Lower.shift_from.Goals as goal

pub returns-then-not-begins_shift : goal.returns-then-not-begins_shift
returns-then-not-begins_shift g c =
    (shift_stops c.args.depth c.args.self.now.depth c.args.row (view.operand c.args.first) c.args.cursor.now c.args.half (sym c.if-not-begins_shift.ensures.same), c.requires.tall, c.requires.low)

pub returns-in_err-more : goal.returns-in_err-more
returns-in_err-more g c =
    let p = err_from_is_err_and c.from_residual.result c.from_residual.ensures.1 in
    let d = c.args.depth in
    let u = c.args.self.now.depth in
    let a = view.operand c.args.first in
    rw (p.1, p.2) (passes view_tails open_tails_height u (shifts_behind u c.args.row c.args.half c.args.cursor.now) open_operand open_operand_height d (shift_from d u c.args.row a c.args.half c.args.cursor.now) c.in_err-more.field-0.0 c.shifts.new.cursor
    (λ end e. shift_fails d u c.args.row a c.args.cursor.now c.args.half end (sym c.if-not-begins_shift.ensures.same) e) c.in_err-more.ensures)

pub returns : goal.returns
returns g c =
    let m = c.in_ok-more.ensures in
    let a = view.operand c.args.first in
    let l = tails_of c.in_ok-more.more.items in
    let made : view.operand c.in_ok-operand.operand ≡ tree.binary a l = c.in_ok-operand.ensures in
    let high = ap height.operand_height made ∙ binary_height a l in
    let below = c.if-not-begins_shift.ensures.low refl in (
      shift_gives c.args.depth c.args.self.now.depth c.args.row a c.args.cursor.now c.args.half c.shifts.new.cursor l c.in_ok-more.behind (sym c.if-not-begins_shift.ensures.same) m.0
          ∙ ap (λ (b : tree.Operand). gave (b, c.in_ok-more.behind) c.shifts.new.cursor) (sym made),
      omega (arith, high, c.max.ensures, c.requires.tall, m.1),
      omega (arith, c.max.ensures, below, m.1, m.2, c.requires.under),
    )
