use Rattle.std.proofs.Common.{◌+◌, ◌∙◌, sym, ap, refl, arith}
use Rattle.std.proofs.lemmas.Result.{err_from_is_err_and}
use Rattle.dart_tree.specs.Depth as height
use Rattle.dart_tree.specs.Lists.{cascades_of}
use Rattle.dart_tree.specs.Tree as tree
use Rattle.dart_tree.specs.View as view
use Rattle.grammar_laws.proofs.Cuts.{gave}
use Rattle.token_cursor.proofs.Passing.{passes}
use Rattle.parse_nest.specs.Open.{open_expr, open_expr_height}
use Rattle.parse_expr.specs.Views.{open_cascades, open_cascades_height, cascades_reader, cascades_behind}
use Rattle.parse_expr.proofs.Behind.{plain_height}
use Rattle.parse_expr.proofs.expr.with_cascades.Goals as goal

pub returns-in_err-found : goal.returns-in_err-found
returns-in_err-found g c =
    let p = err_from_is_err_and c.from_residual.result c.from_residual.ensures.1 in
    let d = c.args.depth in
    let ts = c.args.cursor.now in
    rw (p.1, p.2) (passes open_cascades open_cascades_height d (cascades_reader d ts) open_expr open_expr_height (d + 1) (cascades_behind d (view.operand c.args.operand) ts) c.in_err-found.field-0.0 c.cascades.new.cursor
    (λ rest e. rw e refl) c.in_err-found.ensures)

pub returns : goal.returns
returns g c =
    let r = c.in_ok-found.ensures in
    let high = ap height.expr_height c.plain.ensures ∙ plain_height (view.operand c.args.operand) (cascades_of c.in_ok-found.found.items) in (
      rw r.0 (ap (λ (x : tree.Expr). gave (x, c.in_ok-found.half) c.cascades.new.cursor) (sym c.plain.ensures)),
      omega (arith, high, r.1, c.requires.high, c.max.ensures),
      omega (arith, r.2, c.requires.low, c.max.ensures),
    )
