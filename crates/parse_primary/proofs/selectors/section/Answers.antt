use Rattle.std.proofs.Common.{sym, subst}
use Rattle.std.proofs.lemmas.Result.{err_from_is_err_and}
use Rattle.dart_tree.specs.Depth as height
use Rattle.dart_tree.specs.Tree as tree
use Rattle.dart_tree.specs.View as view
use Rattle.dart_token.specs.declared.token.Token.{Token}
use Rattle.grammar_laws.specs.Readers.{Outcome}
use Rattle.token_cursor.specs.Gives.{GivesHigh}
use Rattle.token_cursor.proofs.Passing.{passes}
use Rattle.syntax_readers.specs.Primaries.{section_over}
use Rattle.parse_primary.specs.Views.{selectors_behind, section_start, view_section}
use Rattle.parse_primary.proofs.Selecting.{section_is, section_fails, section_gives}
use Rattle.parse_primary.proofs.selectors.section.Goals as goal
use Rattle.parse_nest.specs.Stages.{exprs_at}

pub returns-in_err-first : goal.returns-in_err-first
returns-in_err-first g c =
    let p = err_from_is_err_and c.from_residual.result c.from_residual.ensures.1 in
    let d = c.args.depth in
    rw (p.1, p.2) (passes view.selector height.selector_height d (section_start d c.args.cursor.now) view_section height.selectors_height d (section_over (exprs_at d) c.args.cursor.now) c.in_err-first.field-0.0 c.section_start.new.cursor
    (λ end e. section_fails d c.args.cursor.now end e) c.in_err-first.ensures)

pub returns : goal.returns
returns g c =
    let d = c.args.depth in
    let r = c.in_ok-first.ensures in
    let a = view.selector c.in_ok-first.first in
    subst (λ (o : Outcome Token tree.Selectors). GivesHigh view_section height.selectors_height d o c.selectors_behind.result c.selectors_behind.new.cursor) (sym (section_is d c.args.cursor.now c.section_start.new.cursor a r.0))
    (section_gives d (selectors_behind d a c.section_start.new.cursor) c.selectors_behind.new.cursor c.selectors_behind.result c.selectors_behind.ensures)
