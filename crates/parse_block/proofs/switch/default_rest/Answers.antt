use Rattle.std.proofs.Common.{false, arith}
use Rattle.dart_token.specs.declared.sign.Sign.TheVariants as s
use Rattle.dart_token.specs.declared.word.Word.TheVariants as w
use Rattle.dart_tree.specs.Depth as height
use Rattle.dart_tree.specs.Tree as t
use Rattle.dart_tree.specs.View as view
use Rattle.token_codes.specs.Leaves.{sign, word}
use Rattle.parse_block.specs.Views.{list_of, stmts_at}
use Rattle.parse_block.proofs.Rests.{read_default}
use Rattle.parse_block.proofs.switch.default_rest.Goals as goal

pub returns : goal.returns
unfolding view.value height.value_height
returns g c =
    let d = c.args.depth in
    let r = c.in_ok-statements.ensures in (
      read_default (word w.Default) (sign s.Colon) (stmts_at d false) c.args.cursor.now t.omitted c.in_ok-word.word c.in_ok-colon.colon (list_of c.in_ok-statements.statements) _ _ _
          c.in_ok-word.ensures c.in_ok-colon.ensures r.0,
      omega (arith, r.1),
      omega (arith, r.2),
    )
