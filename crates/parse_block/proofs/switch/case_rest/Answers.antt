use Rattle.std.proofs.Common.{◌≡◌, None, true, ap, arith}
use Rattle.dart_token.specs.declared.sign.Sign.TheVariants as s
use Rattle.dart_token.specs.declared.word.Word.TheVariants as w
use Rattle.dart_tree.specs.Depth as height
use Rattle.dart_tree.specs.Tree as t
use Rattle.dart_tree.specs.View as view
use Rattle.token_codes.specs.Leaves.{sign, word}
use Rattle.parse_nest.specs.Stages.{closed_at}
use Rattle.parse_block.specs.Views.{list_of, stmts_at, case_at}
use Rattle.parse_block.proofs.Rests.{read_case, seen_value}
use Rattle.parse_block.proofs.switch.case_rest.Goals as goal

pub returns : goal.returns
unfolding height.value_height
returns g c =
    let d = c.args.depth in
    let start = c.args.cursor.now in
    let q = c.in_ok-expr.ensures in
    let r = c.in_ok-statements.ensures in
    let e = view.expr c.in_ok-expr.expr in
    let list = list_of c.in_ok-statements.statements in
    let k : height.value_height (view.value c.in_ok-value.value) ≡ height.expr_height e = ap height.value_height c.in_ok-value.ensures in (
      seen_value (case_at d start) c.in_ok-word.word c.in_ok-colon.colon list (t.given None e) (view.value c.in_ok-value.value) _
          (read_case (word w.Case) (sign s.Colon) (stmts_at d true) start (t.given None) (closed_at d) c.in_ok-word.word e c.in_ok-colon.colon list _ _ _ _ c.in_ok-word.ensures q.0 c.in_ok-colon.ensures r.0)
          c.in_ok-value.ensures,
      omega (arith, q.1, r.1, k),
      omega (arith, q.2, r.2, k),
    )
