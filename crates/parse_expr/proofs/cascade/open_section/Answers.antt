use Rattle.std.proofs.Common.{None, ap, ◌∙◌}
use Rattle.std.proofs.lemmas.Result.{err_from_is_err_and}
use Rattle.dart_tree.specs.Depth as height
use Rattle.dart_tree.specs.Lists.{selectors_of}
use Rattle.dart_syntax.specs.Expressions.{selectors_assign}
use Rattle.token_cursor.proofs.Passing.{passes}
use Rattle.syntax_readers.specs.Combinators.{shut}
use Rattle.syntax_readers.specs.Primaries.{section_over}
use Rattle.parse_primary.specs.Views.{view_section}
use Rattle.parse_expr.specs.Views.{section_reader, open_selectors, open_selectors_height}
use Rattle.parse_expr.proofs.Halving.{halved_fails, halved_gives, half_at, shut_fails, shut_gives}
use Rattle.parse_expr.proofs.cascade.open_section.Goals as goal
use Rattle.parse_nest.specs.Stages.{exprs_at}

pub returns-in_err-selectors : goal.returns-in_err-selectors
returns-in_err-selectors g c =
    let p = err_from_is_err_and c.from_residual.result c.from_residual.ensures.1 in
    let d = c.args.depth in
    let ts = c.args.cursor.now in
    rw (p.1, p.2) (passes view_section height.selectors_height d (section_over (exprs_at d) ts) open_selectors open_selectors_height d (section_reader d ts) c.in_err-selectors.field-0.0 c.section.new.cursor
    (λ rest e. halved_fails selectors_assign (shut (section_over (exprs_at d))) ts rest (shut_fails (section_over (exprs_at d)) ts rest e)) c.in_err-selectors.ensures)

pub returns : goal.returns
returns g c =
    let d = c.args.depth in
    let ts = c.args.cursor.now in
    let r = c.in_ok-selectors.ensures in
    let x = selectors_of c.in_ok-selectors.selectors.items in
    let may = c.selectors_assign-may.ensures ∙ ap (λ (l : _). selectors_assign (selectors_of l)) c.deref.ensures.value in (
      halved_gives selectors_assign (shut (section_over (exprs_at d))) ts c.section.new.cursor c.half_behind-half.new.cursor x None c.half_behind-half.result
          (shut_gives (section_over (exprs_at d)) ts c.section.new.cursor x r.0)
          (half_at None c.selectors_assign-may.result (selectors_assign x) c.section.new.cursor may ∙ c.half_behind-half.ensures),
      r.1,
      r.2,
    )
