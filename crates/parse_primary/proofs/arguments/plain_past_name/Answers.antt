use Rattle.parse_nest.specs.Stages.{closed_at}
use Rattle.parse_primary.specs.Views.{unlabelled, argument_of, argument_height}
use Rattle.parse_primary.proofs.Trying.{past_reads, past_fails}
use Rattle.parse_primary.proofs.arguments.plain_past_name.Goals as goal

pub returns-in-Ok : goal.returns-in-Ok
returns-in-Ok g c =
    let d = c.args.depth in
    past_reads argument_of argument_height d (unlabelled (closed_at d)) c.args.cursor.now c.plain_argument.new.cursor c.in-Ok.found c.in-Ok.ensures

pub returns-in-Err : goal.returns-in-Err
returns-in-Err g c =
    let d = c.args.depth in
    past_fails argument_of argument_height d (unlabelled (closed_at d)) c.args.cursor.now c.fork-start.result c.plain_argument.new.cursor c.pass_name.new.cursor c.in-Err.fault c.fork-start.ensures c.pass_name.ensures c.in-Err.ensures
