use Rattle.std.proofs.Common.{◌≡◌, ap, arith}
use Rattle.dart_syntax.specs.Statements.{to_stmts}
use Rattle.dart_tree.specs.Depth as height
use Rattle.dart_tree.specs.Lists.{stmts_of}
use Rattle.dart_tree.specs.Tree as t
use Rattle.parse_block.specs.Views.{list_of}
use Rattle.parse_block.proofs.Turns.{same_list}
use Rattle.parse_block.proofs.block.enclosed.Goals as goal

pub returns : goal.returns
unfolding height.block_height
returns c =
    let is : stmts_of c.args.statements.items ≡ to_stmts (list_of c.args.statements) = same_list c.args.statements.items in
    let k = ap height.stmts_height is in
    record { same = ap (λ (l : t.Stmts). t.the_block c.args.opening l c.args.closing) is; high = omega arith }
