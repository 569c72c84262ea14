use Rattle.std.proofs.Common.{◌≡◌, ◌∙◌, ap, arith}
use Rattle.dart_tree.specs.Depth as height
use Rattle.dart_tree.specs.Tree as t
use Rattle.dart_tree.specs.View as view
use Rattle.syntax_readers.specs.Statements.{a_do_of}
use Rattle.parse_block.specs.Views.{again_of}
use Rattle.parse_block.proofs.repeat.repeated.Goals as goal

pub returns : goal.returns
unfolding height.stmt_height
returns c =
    let is : view.stmt c.in_ok-statement.statement ≡ t.loop (a_do_of ((c.args.word, view.stmt c.args.body), again_of c.args.again)) =
    c.in_ok-statement.ensures ∙ ap t.loop c.in_ok-found.ensures in
    let k = ap height.stmt_height is in
    record { same = is; high = omega arith }
