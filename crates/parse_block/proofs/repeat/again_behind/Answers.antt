use Rattle.dart_tree.specs.View as view
use Rattle.syntax_readers.specs.Statements.{open_try}
use Rattle.parse_block.specs.Views.{again_of, again_height, again_at}
use Rattle.parse_block.proofs.Behind.{beside, counted}
use Rattle.parse_block.proofs.repeat.again_behind.Goals as goal

pub returns : goal.returns
returns g c =
    let d = c.args.depth in
    let start = c.args.cursor.now in
    let room = c.type_room.result in
    counted again_of again_height d (again_at d) start (open_try (view.stmt c.args.body.now)) room c.again-found.result c.settle.new.cursor c.type_room.ensures
    (beside again_of again_height d (again_at d) start room c.in-Some.room c.pass_on.new.cursor c.again-found.new.cursor c.settle.new.cursor c.again-found.result
    c.in-Some.is c.in_ok-pass_on.ensures (rw c.fork-second.ensures at c.again-found.ensures) (rw c.is_ok.ensures.value at c.settle.ensures))
