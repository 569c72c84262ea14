use Rattle.std.proofs.Common.{List, sym, subst}
use Rattle.std.proofs.lemmas.Result.{err_from_is_err_and}
use Rattle.dart_tree.specs.Depth as height
use Rattle.dart_tree.specs.Tree as tree
use Rattle.dart_tree.specs.View as view
use Rattle.dart_token.specs.declared.token.Token.{Token}
use Rattle.grammar_laws.specs.Readers.{Outcome}
use Rattle.token_cursor.specs.Gives.{GivesHigh}
use Rattle.token_cursor.proofs.Passing.{passes}
use Rattle.syntax_readers.specs.Primaries.{selector, selectors}
use Rattle.parse_primary.specs.Views.{view_selectors, selectors_high}
use Rattle.parse_primary.proofs.Selecting.{selectors_is, selectors_fail}
use Rattle.parse_primary.proofs.selectors.selectors.Goals as goal
use Rattle.parse_nest.specs.Stages.{exprs_at}

pub returns-in_err-first : goal.returns-in_err-first
returns-in_err-first g c =
    let p = err_from_is_err_and c.from_residual.result c.from_residual.ensures.1 in
    let d = c.args.depth in
    rw (p.1, p.2) (passes view.selector height.selector_height d (selector (exprs_at d) c.args.cursor.now) view_selectors selectors_high d (selectors (exprs_at d) c.args.cursor.now) c.in_err-first.field-0.0 c.selector.new.cursor
    (λ end e. selectors_fail d c.args.cursor.now end e) c.in_err-first.ensures)

pub returns : goal.returns
returns g c =
    let d = c.args.depth in
    let r = c.in_ok-first.ensures in
    subst (λ (o : Outcome Token (List tree.Selector)). GivesHigh view_selectors selectors_high d o c.selectors_behind.result c.selectors_behind.new.cursor) (sym (selectors_is d c.args.cursor.now c.selector.new.cursor (view.selector c.in_ok-first.first) r.0)) c.selectors_behind.ensures
