use Rattle.std.proofs.Common.{sym, subst}
use Rattle.std.proofs.lemmas.Result.{err_from_is_err_and}
use Rattle.dart_token.specs.declared.token.Token.{Token}
use Rattle.dart_tree.specs.Depth as height
use Rattle.grammar_laws.specs.Readers.{Outcome}
use Rattle.parse_decl.specs.Views.{item_height, item_of, still_of}
use Rattle.parse_decl.proofs.Items.{item_goes_on, item_stops}
use Rattle.parse_decl.proofs.item.item.Goals as goal
use Rattle.parse_nest.specs.Stages.{exprs_at}
use Rattle.parse_parameter.specs.Views.{metadata_of}
use Rattle.syntax_readers.specs.Parameters.{metadata}
use Rattle.syntax_readers.specs.Units as spec
use Rattle.token_cursor.proofs.Passing.{passes}
use Rattle.token_cursor.specs.Gives.{GivesHigh}

pub returns-in_err-annotations : goal.returns-in_err-annotations
returns-in_err-annotations g c =
    let p = err_from_is_err_and c.from_residual.result c.from_residual.ensures.1 in
    let d = c.args.depth in
    let still = still_of c.args.still in
    let start = c.args.cursor.now in
    rw (p.1, p.2) (passes metadata_of height.metadata_height d (metadata (exprs_at d) start) item_of item_height d (spec.item d still start) c.in_err-annotations.field-0.0 c.metadata.new.cursor
    (λ end e. item_stops d still start end e) c.in_err-annotations.ensures)

pub returns : goal.returns
returns g c =
    let d = c.args.depth in
    let still = still_of c.args.still in
    subst (λ (o : Outcome Token spec.Item). GivesHigh item_of item_height d o c.item_behind.result c.item_behind.new.cursor)
    (sym (item_goes_on d still c.args.cursor.now (metadata_of c.in_ok-annotations.annotations) c.metadata.new.cursor c.in_ok-annotations.ensures.0)) c.item_behind.ensures
