use Rattle.std.proofs.Common.{◌+◌, List, Err, subst}
use Rattle.dart_token.specs.declared.token.Token.{Token}
use Rattle.dart_tree.specs.Depth as height
use Rattle.dart_tree.specs.View as view
use Rattle.grammar_laws.specs.Readers.{farther}
use Rattle.token_cursor.specs.declared.error.ReadFault.{ReadFault}
use Rattle.token_cursor.specs.Gives.{GivesHigh}
use Rattle.parse_nest.specs.Stages.{closed_at}
use Rattle.syntax_readers.specs.Types.{type_reader}
use Rattle.syntax_readers.specs.Primaries.{list_over, map_over}
use Rattle.parse_literal.proofs.Tried.{first_reads, first_stops}
use Rattle.parse_literal.proofs.collections.typed_literal.Goals as goal

pub returns-in-Ok : goal.returns-in-Ok
returns-in-Ok g c =
    let d = c.args.depth in
    first_reads view.primary height.primary_height (d + 1) (list_over (type_reader d) (closed_at d)) (map_over (type_reader d) (closed_at d)) c.args.cursor.now c.list_literal.new.cursor c.in-Ok.found c.in-Ok.ensures

pub returns-in-Err-Stuck : goal.returns-in-Err-Stuck
returns-in-Err-Stuck g c =
    let d = c.args.depth in
    let at = c.list_literal.new.cursor in
    first_stops view.primary height.primary_height (d + 1) (list_over (type_reader d) (closed_at d)) (map_over (type_reader d) (closed_at d)) c.args.cursor.now at c.map_behind_list.new.cursor c.map_behind_list.result
    (subst (λ (f : ReadFault). GivesHigh view.primary height.primary_height (d + 1) (list_over (type_reader d) (closed_at d) c.args.cursor.now) (Err f) at) c.in-Err-Stuck.field-0-is c.in-Err-Stuck.ensures)
    (subst (λ (ts : List Token). GivesHigh view.primary height.primary_height (d + 1) (farther (Err at) (map_over (type_reader d) (closed_at d) ts)) c.map_behind_list.result c.map_behind_list.new.cursor) c.fork-start.ensures c.map_behind_list.ensures)
