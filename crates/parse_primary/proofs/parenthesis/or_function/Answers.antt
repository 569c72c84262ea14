use Rattle.parse_primary.specs.Views.{open_primary, open_primary_height}
use Rattle.parse_primary.proofs.Trying.{farther_gives, farther_stops}
use Rattle.parse_primary.proofs.parenthesis.or_function.Goals as goal
use Rattle.parse_nest.specs.Stages.{exprs_at}

pub returns-in-Ok : goal.returns-in-Ok
returns-in-Ok g c =
    let d = c.args.depth in
    farther_gives open_primary open_primary_height d (exprs_at d).function c.args.start.now c.fork-other.result c.args.cursor.now c.function.new.cursor c.in-Ok.found c.fork-other.ensures c.in-Ok.ensures

pub returns-in-Err : goal.returns-in-Err
returns-in-Err g c =
    let d = c.args.depth in
    farther_stops open_primary open_primary_height d (exprs_at d).function c.args.start.now c.fork-other.result c.args.cursor.now c.function.new.cursor c.move_later.new.cursor c.in-Err.fault c.fork-other.ensures c.move_later.ensures c.in-Err.ensures
