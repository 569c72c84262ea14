use Rattle.std.proofs.Common.{sym, subst}
use Rattle.dart_token.specs.declared.token.Token.{Token}
use Rattle.grammar_laws.specs.Readers.{Outcome, deeper}
use Rattle.syntax_readers.specs.Declarations as spec
use Rattle.token_cursor.specs.Gives.{GivesHigh}
use Rattle.parse_nest.specs.Stages.{block_at}
use Rattle.parse_constructor.specs.Views.{Rest, rest_of, rest_height}
use Rattle.parse_constructor.proofs.Seeking.{first_reads}
use Rattle.parse_constructor.proofs.rest.rest.Goals as goal

pub returns-in-Ok : goal.returns-in-Ok
returns-in-Ok g c =
    let d = c.args.depth in
    let start = c.args.cursor.now in
    first_reads rest_of rest_height d (spec.with_initializers (spec.init d) (block_at d) start) (spec.with_own_body (spec.init d)
    (block_at d) start) c.in-Ok.found c.with_initializers.new.cursor c.in-Ok.ensures

pub returns-in-Err-Stuck : goal.returns-in-Err-Stuck
returns-in-Err-Stuck g c =
    let d = c.args.depth in
    let start = c.args.cursor.now in
    subst (λ (o : Outcome Token Rest). GivesHigh rest_of rest_height d (deeper o (spec.with_own_body (spec.init d) (block_at d) start))
    c.or_own_body.result c.or_own_body.new.cursor)
    (sym (rw c.in-Err-Stuck.field-0-is at c.in-Err-Stuck.ensures)) (rw c.fork-start.ensures at c.or_own_body.ensures)
