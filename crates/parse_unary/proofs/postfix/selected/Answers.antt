use Rattle.std.proofs.Common.{◌∙◌, ◌-◌, None, refl, sym, ap, arith}
use Rattle.std.proofs.lemmas.Result.{err_from_is_err_and}
use Rattle.dart_tree.specs.Tree as tree
use Rattle.dart_tree.specs.View as view
use Rattle.grammar_laws.proofs.Cuts.{gave}
use Rattle.syntax_readers.specs.Primaries.{primary, selectors}
use Rattle.syntax_readers.specs.Statements.{stage}
use Rattle.parse_primary.specs.Views.{view_selectors, selectors_high}
use Rattle.parse_unary.specs.Views.{selected_reader}
use Rattle.parse_unary.proofs.Staged.{first_fails, first_alone, more_fails, more_gives, selectors_are, primary_height, more_high, passes_primary, passes_inside}
use Rattle.parse_unary.proofs.postfix.selected.Goals as goal

pub returns-in_err-first : goal.returns-in_err-first
returns-in_err-first g c =
    let p = err_from_is_err_and c.from_residual.result c.from_residual.ensures.1 in
    let d = c.args.depth in
    rw (p.1, p.2) (passes_primary d (primary (stage d).nodes.exprs c.args.cursor.now) (selected_reader d c.args.cursor.now) c.in_err-first.field-0.0 c.primary.new.cursor
    (λ rest e. first_fails d c.args.cursor.now rest e) c.in_err-first.ensures)

pub returns-then-not-sees_selected : goal.returns-then-not-sees_selected
returns-then-not-sees_selected g c =
    let r = c.in_ok-first.ensures in (
      first_alone c.args.depth c.args.cursor.now c.primary.new.cursor (view.primary c.in_ok-first.first, c.in_ok-first.half) r.0 (sym c.if-not-sees_selected.ensures.comes),
      r.1 ∙ sym (primary_height (view.primary c.in_ok-first.first)),
      r.2,
    )

pub returns-in_err-more : goal.returns-in_err-more
returns-in_err-more g c =
    let p = err_from_is_err_and c.from_residual-in_err-more.result c.from_residual-in_err-more.ensures.1 in
    let d = c.args.depth in
    let r = c.in_ok-first.ensures in
    rw (p.1, p.2) (passes_inside view_selectors selectors_high (d - 1) d (selectors (stage (d - 1)).nodes.exprs c.primary.new.cursor) (selected_reader d c.args.cursor.now) c.in_err-more.field-0.0 c.selectors.new.cursor
    (λ rest e. more_fails d c.args.cursor.now c.primary.new.cursor rest (view.primary c.in_ok-first.first, c.in_ok-first.half) (omega (arith, c.if-not-sees_selected.ensures.low)) r.0 (sym c.if-not-sees_selected.ensures.comes) e) c.in_err-more.ensures)

pub returns : goal.returns
returns g c =
    let d = c.args.depth in
    let r = c.in_ok-first.ensures in
    let m = c.in_ok-more.ensures in
    let x = view.primary c.in_ok-first.first in
    let low = c.if-not-sees_selected.ensures.low refl in
    let same = selectors_are c.in_ok-more.more.items in (
      more_gives d c.args.cursor.now c.primary.new.cursor c.selectors.new.cursor (x, c.in_ok-first.half) (view_selectors c.in_ok-more.more) (omega (arith, low)) r.0 (sym c.if-not-sees_selected.ensures.comes) m.0
          ∙ ap (λ (l : tree.Selectors). gave (tree.postfix x l None, None) c.selectors.new.cursor) (sym same),
      more_high x c.in_ok-more.more.items c.in_ok-first.tall c.in_ok-more.highest c.max.result r.1 m.1 c.max.ensures,
      omega (arith, low, m.2, c.max.ensures),
    )
