use Rattle.std.proofs.Common.{arith}
use Rattle.dart_tree.specs.View as view
use Rattle.syntax_readers.specs.Statements.{switch_over}
use Rattle.parse_nest.specs.Stages.{closed_at, stmt_at}
use Rattle.parse_block.specs.Views.{condition_of, parts_of}
use Rattle.parse_block.proofs.Choosing.{switch_reads, seen}
use Rattle.parse_block.proofs.switch.switch_stmt.Goals as goal

pub returns : goal.returns
returns g c =
    let d = c.args.depth in
    let start = c.args.cursor.now in
    let q = c.in_ok-condition.ensures in
    let r = c.in_ok-parts.ensures in
    let high = c.chosen.ensures.high in (
      seen (switch_over d (closed_at d) (stmt_at d) start) _ (view.stmt c.chosen.result) _
          (switch_reads d start c.in_ok-word.word _ c.in_ok-word.ensures (condition_of c.in_ok-condition.condition) _ q.0 c.in_ok-opening.opening _ c.in_ok-opening.ensures
          (parts_of c.in_ok-parts.parts) _ r.0 c.in_ok-closing.closing _ c.in_ok-closing.ensures)
          c.chosen.ensures.same,
      omega (arith, q.1, r.1),
      omega (arith, q.2, r.2),
    )
