use Rattle.std.proofs.Common.{◌+◌, List, Err, subst}
use Rattle.dart_token.specs.declared.token.Token.{Token}
use Rattle.dart_tree.specs.Depth as height
use Rattle.dart_tree.specs.View as view
use Rattle.token_cursor.specs.Gives.{GivesHigh}
use Rattle.parse_nest.specs.Stages.{closed_at}
use Rattle.syntax_readers.specs.Types.{type_reader}
use Rattle.syntax_readers.specs.Primaries.{map_over}
use Rattle.parse_literal.proofs.Tried.{second_reads, second_stops}
use Rattle.parse_literal.proofs.collections.map_behind_list.Goals as goal

pub returns-in-Ok : goal.returns-in-Ok
returns-in-Ok g c =
    let d = c.args.depth in
    second_reads view.primary height.primary_height (d + 1) (map_over (type_reader d) (closed_at d) c.args.start.now) c.args.cursor.now c.map_literal.new.cursor c.in-Ok.found (rw c.fork-other.ensures at c.in-Ok.ensures)

pub returns-in-Err : goal.returns-in-Err
returns-in-Err g c =
    let d = c.args.depth in
    second_stops view.primary height.primary_height (d + 1) (map_over (type_reader d) (closed_at d) c.args.start.now) c.args.cursor.now c.map_literal.new.cursor c.move_later.new.cursor c.in-Err.fault c.move_later.ensures
    (subst (λ (ts : List Token). GivesHigh view.primary height.primary_height (d + 1) (map_over (type_reader d) (closed_at d) ts) (Err c.in-Err.fault) c.map_literal.new.cursor) c.fork-other.ensures c.in-Err.ensures)
