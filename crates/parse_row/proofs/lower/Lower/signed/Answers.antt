use Rattle.std.proofs.Common.{◌≡◌, ◌∙◌, refl, sym, ap, arith}
use Rattle.std.proofs.lemmas.Result.{err_from_is_err_and}
use Rattle.dart_tree.specs.Depth as height
use Rattle.dart_tree.specs.Lists.{tails_of}
use Rattle.dart_tree.specs.Tree as tree
use Rattle.dart_tree.specs.View as view
use Rattle.grammar_laws.proofs.Cuts.{gave}
use Rattle.token_cursor.proofs.Passing.{passes}
use Rattle.parse_unary.specs.Views.{open_operand, open_operand_height}
use Rattle.parse_row.specs.Rows.{tails_behind, sign_row, view_tails, open_tails_height}
use Rattle.parse_row.proofs.Behind.{binary_height, sign_stops, sign_fails, sign_gives}
use Rattle.parse_row.proofs.lower.Lower.signed.Goals as goal

pub returns-then-not-begins : goal.returns-then-not-begins
returns-then-not-begins g c =
    (sign_stops c.args.depth c.args.self.now.depth c.args.row (open_operand c.args.first) c.args.cursor.now (sym c.if-not-begins.ensures.same), c.requires.tall, c.requires.low)

pub returns-in_err-more : goal.returns-in_err-more
returns-in_err-more g c =
    let p = err_from_is_err_and c.from_residual.result c.from_residual.ensures.1 in
    let d = c.args.depth in
    let u = c.args.self.now.depth in
    let x = open_operand c.args.first in
    rw (p.1, p.2) (passes view_tails open_tails_height u (tails_behind u c.args.row c.args.cursor.now) open_operand open_operand_height d (sign_row d u c.args.row x c.args.cursor.now) c.in_err-more.field-0.0 c.tails.new.cursor
    (λ end e. sign_fails d u c.args.row x c.args.cursor.now end (sym c.if-not-begins.ensures.same) e) c.in_err-more.ensures)

pub returns : goal.returns
returns g c =
    let m = c.in_ok-more.ensures in
    let x = open_operand c.args.first in
    let l = tails_of c.in_ok-more.more.items in
    let made : view.operand c.in_ok-operand.operand ≡ tree.binary x.0 l = c.in_ok-operand.ensures in
    let high = ap height.operand_height made ∙ binary_height x.0 l in
    let below = c.if-not-begins.ensures.low refl in (
      sign_gives c.args.depth c.args.self.now.depth c.args.row x c.args.cursor.now c.tails.new.cursor l c.in_ok-more.half (sym c.if-not-begins.ensures.same) m.0
          ∙ ap (λ (a : tree.Operand). gave (a, c.in_ok-more.half) c.tails.new.cursor) (sym made),
      omega (arith, high, c.max.ensures, c.requires.tall, m.1),
      omega (arith, c.max.ensures, below, m.1, m.2, c.requires.under),
    )
