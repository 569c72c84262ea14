use Rattle.std.proofs.Common.{◌<◌, ◌≤◌, length, arith}
use Rattle.std.proofs.lemmas.Bool.{lt-ltb, le-ltb}
use Rattle.parse_primary.specs.Views.{open_primary, open_primary_height, closed_parenthesis}
use Rattle.parse_primary.proofs.Trying.{deeper_gives, deeper_refuses, deeper_stops}
use Rattle.parse_primary.proofs.parenthesis.or_parenthesis.Goals as goal

pub returns-then-left : goal.returns-then-left
returns-then-left g c =
    let d = c.args.depth in
    let below : length c.args.cursor.now < length c.closed_parenthesis.new.cursor = omega arith in
    deeper_refuses open_primary open_primary_height d (closed_parenthesis d) c.args.start.now c.fork-other.result c.args.cursor.now c.closed_parenthesis.new.cursor c.in-Ok.found c.fork-other.ensures (lt-ltb (length c.args.cursor.now) (length c.closed_parenthesis.new.cursor) below) c.in-Ok.ensures

pub returns-else-left : goal.returns-else-left
returns-else-left g c =
    let d = c.args.depth in
    let reached : length c.closed_parenthesis.new.cursor ≤ length c.args.cursor.now = omega arith in
    deeper_gives open_primary open_primary_height d (closed_parenthesis d) c.args.start.now c.fork-other.result c.args.cursor.now c.closed_parenthesis.new.cursor c.in-Ok.found c.fork-other.ensures (le-ltb (length c.args.cursor.now) (length c.closed_parenthesis.new.cursor) reached) c.in-Ok.ensures

pub returns-in-Err : goal.returns-in-Err
returns-in-Err g c =
    let d = c.args.depth in
    deeper_stops open_primary open_primary_height d (closed_parenthesis d) c.args.start.now c.fork-other.result c.args.cursor.now c.closed_parenthesis.new.cursor c.move_later.new.cursor c.in-Err.fault c.fork-other.ensures c.move_later.ensures c.in-Err.ensures
