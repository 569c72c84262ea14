use Rattle.parse_primary.specs.Views.{open_primary, open_primary_height, closed_parenthesis}
use Rattle.parse_primary.proofs.Trying.{tried_first, tried_second}
use Rattle.parse_primary.proofs.parenthesis.rather_parenthesis.Goals as goal
use Rattle.parse_nest.specs.Stages.{exprs_at}

pub returns-in-Ok : goal.returns-in-Ok
returns-in-Ok g c =
    let d = c.args.depth in
    tried_first open_primary open_primary_height d (closed_parenthesis d) (exprs_at d).function c.args.cursor.now c.closed_parenthesis.new.cursor c.in-Ok.found c.in-Ok.ensures

pub returns-in-Err-Stuck : goal.returns-in-Err-Stuck
returns-in-Err-Stuck g c =
    let d = c.args.depth in
    tried_second open_primary open_primary_height d (closed_parenthesis d) (exprs_at d).function c.args.cursor.now c.fork-start.result c.closed_parenthesis.new.cursor c.or_function.new.cursor c.or_function.result c.fork-start.ensures (rw c.in-Err-Stuck.field-0-is at c.in-Err-Stuck.ensures) c.or_function.ensures
