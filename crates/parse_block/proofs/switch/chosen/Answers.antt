use Rattle.std.proofs.Common.{◌≡◌, ◌∙◌, ap, arith}
use Rattle.dart_syntax.specs.Statements.{a_switch}
use Rattle.dart_tree.specs.Depth as height
use Rattle.dart_tree.specs.Tree as t
use Rattle.dart_tree.specs.View as view
use Rattle.syntax_readers.specs.Statements.{to_parts}
use Rattle.parse_block.specs.Views.{condition_of, parts_of}
use Rattle.parse_block.proofs.Parts.{same_parts}
use Rattle.parse_block.proofs.switch.chosen.Goals as goal

pub returns : goal.returns
unfolding height.stmt_height
returns c =
    let x = c.args.condition in
    let is : view.stmt c.switch_statement.result ≡ a_switch c.args.word (condition_of x) c.args.opening (to_parts (parts_of c.args.parts)) c.args.closing =
    c.switch_statement.ensures ∙ ap (λ (l : t.SwitchParts). t.switch_stmt c.args.word x.opening (view.expr x.value) x.closing c.args.opening l c.args.closing) (same_parts c.args.parts.items) in
    let k = ap height.stmt_height is in
    record { same = is; high = omega arith }
