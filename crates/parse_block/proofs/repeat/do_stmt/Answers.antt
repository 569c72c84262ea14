use Rattle.std.proofs.Common.{◌+◌, arith}
use Rattle.std.proofs.lemmas.Result.{err_from_is_err_and}
use Rattle.dart_tree.specs.Depth as height
use Rattle.dart_tree.specs.Tree as t
use Rattle.dart_tree.specs.View as view
use Rattle.grammar_laws.specs.Readers.{mapped}
use Rattle.syntax_readers.specs.Statements.{do_over, open_try, behind_try}
use Rattle.token_cursor.proofs.Passing.{passes}
use Rattle.parse_nest.specs.Stages.{closed_at, stmt_at}
use Rattle.parse_block.specs.Views.{again_of, again_height, again_at}
use Rattle.parse_block.proofs.Choosing.{seen}
use Rattle.parse_block.proofs.Repeating.{no_again, do_reads}
use Rattle.parse_block.proofs.repeat.do_stmt.Goals as goal

pub returns-in_err-again : goal.returns-in_err-again
returns-in_err-again g c =
    let p = err_from_is_err_and c.from_residual-in_err-again.result c.from_residual-in_err-again.ensures.1 in
    let d = c.args.depth in
    let start = c.args.cursor.now in
    let x = view.stmt c.in_ok-body.body in
    rw (p.1, p.2) (passes again_of again_height d (behind_try d (open_try x) (again_at d) c.stmt.new.cursor) view.stmt height.stmt_height (d + 1) (mapped t.loop (do_over d (closed_at d) (stmt_at d)) start) c.in_err-again.field-0.0 c.again_behind.new.cursor
    (λ end e. no_again d start c.in_ok-word.word x _ c.stmt.new.cursor c.in_ok-word.ensures c.in_ok-body.ensures.0 end e) c.in_err-again.ensures)

pub returns : goal.returns
returns g c =
    let d = c.args.depth in
    let start = c.args.cursor.now in
    let q = c.in_ok-body.ensures in
    let r = c.in_ok-again.ensures in
    let high = c.in_ok-found.ensures.high in (
      seen (mapped t.loop (do_over d (closed_at d) (stmt_at d)) start) _ (view.stmt c.in_ok-found.found) _
          (do_reads d start c.in_ok-word.word (view.stmt c.in_ok-body.body) _ _ c.in_ok-word.ensures q.0 (again_of c.in_ok-again.again) _ r.0)
          c.in_ok-found.ensures.same,
      omega (arith, q.1, r.1),
      omega (arith, q.2, r.2),
    )
