use Rattle.std.proofs.Common.{◌≡◌, ◌∙◌, sym, ap, refl, arith}
use Rattle.std.proofs.lemmas.Result.{err_from_is_err_and}
use Rattle.dart_tree.specs.Tree as tree
use Rattle.dart_tree.specs.Lists.{cascades_of}
use Rattle.grammar_laws.proofs.Cuts.{gave}
use Rattle.token_cursor.proofs.Passing.{passes}
use Rattle.syntax_readers.specs.Expressions.{cascaded_over}
use Rattle.parse_unary.specs.Views.{open_operand, open_operand_height, row_reader}
use Rattle.parse_expr.specs.Views.{open_cascades, open_cascades_height, cascades_reader, open_cascaded, open_cascaded_height}
use Rattle.parse_expr.proofs.Behind.{cascaded_fails, cascaded_alone, cascaded_more, alone_high}
use Rattle.parse_expr.proofs.expr.cascaded_over.Goals as goal
use Rattle.parse_nest.specs.Stages.{exprs_at, levels_at}

pub returns-in_err-operand : goal.returns-in_err-operand
returns-in_err-operand g c =
    let p = err_from_is_err_and c.from_residual.result c.from_residual.ensures.1 in
    let d = c.args.depth in
    let ts = c.args.cursor.now in
    rw (p.1, p.2) (passes open_operand open_operand_height d (row_reader d 11 ts) open_cascaded open_cascaded_height d (cascaded_over (exprs_at d) (levels_at d) ts) c.in_err-operand.field-0.0 c.row.new.cursor
    (λ rest e. cascaded_fails d ts rest e) c.in_err-operand.ensures)

pub returns-then-not-sees_cascades : goal.returns-then-not-sees_cascades
returns-then-not-sees_cascades g c =
    let d = c.args.depth in
    let r = c.in_ok-operand.ensures in
    let x = open_operand (c.in_ok-operand.operand, c.in_ok-operand.half) in
    let none : tree.no_cascades ≡ cascades_of c.new.result.items = sym (rw c.new.ensures.items refl) in (
      cascaded_alone d c.args.cursor.now c.row.new.cursor x r.0 (sym c.if-not-sees_cascades.ensures) ∙ ap (λ (l : tree.Cascades). gave ((x.0, l), x.1) c.row.new.cursor) none,
      alone_high x.0 c.new.result.items c.in_ok-operand.tall c.new.ensures.items r.1,
      r.2,
    )

pub returns-in_err-found : goal.returns-in_err-found
returns-in_err-found g c =
    let p = err_from_is_err_and c.from_residual-in_err-found.result c.from_residual-in_err-found.ensures.1 in
    let d = c.args.depth in
    let ts = c.args.cursor.now in
    let x = open_operand (c.in_ok-operand.operand, c.in_ok-operand.half) in
    rw (p.1, p.2) (passes open_cascades open_cascades_height d (cascades_reader d c.row.new.cursor) open_cascaded open_cascaded_height d (cascaded_over (exprs_at d) (levels_at d) ts) c.in_err-found.field-0.0 c.cascades.new.cursor
    (λ rest e. cascaded_more d ts c.row.new.cursor x c.in_ok-operand.ensures.0 (sym c.if-not-sees_cascades.ensures) ∙ rw e refl) c.in_err-found.ensures)

pub returns : goal.returns
returns g c =
    let d = c.args.depth in
    let r = c.in_ok-operand.ensures in
    let m = c.in_ok-found.ensures in
    let x = open_operand (c.in_ok-operand.operand, c.in_ok-operand.half) in (
      cascaded_more d c.args.cursor.now c.row.new.cursor x r.0 (sym c.if-not-sees_cascades.ensures) ∙ rw m.0 refl,
      omega (arith, r.1, m.1, c.max.ensures),
      omega (arith, r.2, m.2, c.max.ensures),
    )
