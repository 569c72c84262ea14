use Rattle.std.proofs.Common.{◌+◌, ap, ◌∙◌, arith}
use Rattle.std.proofs.lemmas.Result.{err_from_is_err_and}
use Rattle.dart_token.specs.declared.sign.Sign.TheVariants as s
use Rattle.dart_tree.specs.Lists.{selectors_of}
use Rattle.dart_syntax.specs.Expressions.{selectors_assign}
use Rattle.token_codes.specs.Leaves.{sign}
use Rattle.token_cursor.specs.Gives.{same}
use Rattle.token_cursor.proofs.Passing.{passes}
use Rattle.parse_unary.proofs.Staged.{passes_flat}
use Rattle.syntax_readers.specs.Expressions.{cascade_over}
use Rattle.parse_expr.specs.Views.{section_reader, value_reader, open_selectors, open_selectors_height, open_value, open_value_height, open_cascade, open_cascade_height}
use Rattle.parse_expr.proofs.Cascading.{no_dots, no_section, no_value, with_all}
use Rattle.parse_expr.proofs.cascade.cascade_over.Goals as goal
use Rattle.parse_nest.specs.Stages.{exprs_at}

pub returns-in_err-dots : goal.returns-in_err-dots
returns-in_err-dots g c =
    let p = err_from_is_err_and c.from_residual.result c.from_residual.ensures.1 in
    let d = c.args.depth in
    let ts = c.args.cursor.now in
    rw (p.1, p.2) (passes_flat same (sign s.DotDot ts) open_cascade open_cascade_height (d + 1) (cascade_over (exprs_at d) ts) c.in_err-dots.field-0.0 c.expect.new.self
    (λ rest e. no_dots d ts rest e) c.in_err-dots.ensures)

pub returns-in_err-selectors : goal.returns-in_err-selectors
returns-in_err-selectors g c =
    let p = err_from_is_err_and c.from_residual-in_err-selectors.result c.from_residual-in_err-selectors.ensures.1 in
    let d = c.args.depth in
    let ts = c.args.cursor.now in
    rw (p.1, p.2) (passes open_selectors open_selectors_height d (section_reader d c.expect.new.self) open_cascade open_cascade_height (d + 1) (cascade_over (exprs_at d) ts) c.in_err-selectors.field-0.0 c.open_section.new.cursor
    (λ rest e. no_section d ts c.in_ok-dots.dots c.expect.new.self rest c.in_ok-dots.ensures e) c.in_err-selectors.ensures)

pub returns-in_err-value : goal.returns-in_err-value
returns-in_err-value g c =
    let p = err_from_is_err_and c.from_residual-in_err-value.result c.from_residual-in_err-value.ensures.1 in
    let d = c.args.depth in
    let ts = c.args.cursor.now in
    let x = open_selectors (c.in_ok-selectors.selectors, c.in_ok-selectors.half) in
    let may = c.selectors_assign-may.ensures ∙ ap (λ (l : _). selectors_assign (selectors_of l)) c.deref.ensures.value in
    rw (p.1, p.2) (passes open_value open_value_height d (value_reader d c.selectors_assign-may.result c.in_ok-selectors.half c.open_section.new.cursor) open_cascade open_cascade_height (d + 1) (cascade_over (exprs_at d) ts) c.in_err-value.field-0.0 c.cascade_value.new.cursor
    (λ rest e. no_value d ts c.in_ok-dots.dots c.expect.new.self c.open_section.new.cursor rest x c.selectors_assign-may.result c.in_ok-dots.ensures c.in_ok-selectors.ensures.0 may e) c.in_err-value.ensures)

pub returns : goal.returns
returns g c =
    let d = c.args.depth in
    let ts = c.args.cursor.now in
    let r = c.in_ok-selectors.ensures in
    let v = c.in_ok-value.ensures in
    let x = open_selectors (c.in_ok-selectors.selectors, c.in_ok-selectors.half) in
    let may = c.selectors_assign-may.ensures ∙ ap (λ (l : _). selectors_assign (selectors_of l)) c.deref.ensures.value in (
      with_all d ts c.in_ok-dots.dots c.expect.new.self c.open_section.new.cursor c.cascade_value.new.cursor x c.selectors_assign-may.result (open_value (c.in_ok-value.value, c.in_ok-value.half)) c.in_ok-dots.ensures r.0 may v.0,
      omega (arith, r.1, v.1, c.max.ensures),
      omega (arith, r.2, v.2, c.max.ensures),
    )
