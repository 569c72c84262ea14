use Rattle.std.proofs.Common.{◌+◌, ◌∙◌, sym, ap, arith}
use Rattle.std.proofs.lemmas.Result.{err_from_is_err_and}
use Rattle.dart_tree.specs.Depth as height
use Rattle.dart_tree.specs.Tree as tree
use Rattle.dart_tree.specs.View as view
use Rattle.grammar_laws.proofs.Cuts.{gave}
use Rattle.syntax_readers.specs.Statements as spec
use Rattle.token_cursor.proofs.Passing.{passes}
use Rattle.parse_nest.specs.Stages.{closed_at, stmt_at}
use Rattle.parse_stmt.specs.Views.{if_head_of, if_head_height, if_head, else_of, else_height, else_part}
use Rattle.parse_stmt.proofs.Following.{no_head, head_alone, no_else, else_read}
use Rattle.parse_stmt.proofs.branch.if_stmt.Goals as goal

pub returns-in_err-head : goal.returns-in_err-head
returns-in_err-head g c =
    let p = err_from_is_err_and c.from_residual.result c.from_residual.ensures.1 in
    let d = c.args.depth in
    let start = c.args.cursor.now in
    rw (p.1, p.2) (passes if_head_of if_head_height d (if_head (closed_at d) (stmt_at d) start) view.stmt height.stmt_height (d + 1) (spec.if_over (closed_at d) (stmt_at d) start) c.in_err-head.field-0.0 c.if_head.new.cursor
    (λ end e. no_head (closed_at d) (stmt_at d) start end e) c.in_err-head.ensures)

pub returns-then-not-else_follows : goal.returns-then-not-else_follows
returns-then-not-else_follows g c =
    let r = c.in_ok-head.ensures in
    let q = c.in_ok-alone.ensures in
    let d = c.args.depth in
    let mid = c.if_head.new.cursor in (
      head_alone (closed_at d) (stmt_at d) c.args.cursor.now (if_head_of c.in_ok-head.head) mid r.0 (sym c.if-not-else_follows.ensures)
          ∙ ap (λ (x : tree.Stmt). gave x mid) (sym q.same),
      omega (arith, r.1, q.high),
      omega (arith, r.2),
    )

pub returns-in_err-behind : goal.returns-in_err-behind
returns-in_err-behind g c =
    let p = err_from_is_err_and c.from_residual-in_err-behind.result c.from_residual-in_err-behind.ensures.1 in
    let d = c.args.depth in
    let start = c.args.cursor.now in
    let mid = c.if_head.new.cursor in
    rw (p.1, p.2) (passes else_of else_height d (else_part (stmt_at d) mid) view.stmt height.stmt_height (d + 1) (spec.if_over (closed_at d) (stmt_at d) start) c.in_err-behind.field-0.0 c.else_part.new.cursor
    (λ end e. no_else (closed_at d) (stmt_at d) start (if_head_of c.in_ok-head.head) mid end c.in_ok-head.ensures.0 (sym c.if-not-else_follows.ensures) e) c.in_err-behind.ensures)

pub returns : goal.returns
returns g c =
    let r = c.in_ok-head.ensures in
    let b = c.in_ok-behind.ensures in
    let q = c.in_ok-made.ensures in
    let d = c.args.depth in
    let mid = c.if_head.new.cursor in
    let end = c.else_part.new.cursor in (
      else_read (closed_at d) (stmt_at d) c.args.cursor.now (if_head_of c.in_ok-head.head) mid (else_of c.in_ok-behind.behind) end r.0 (sym c.if-not-else_follows.ensures) b.0
          ∙ ap (λ (x : tree.Stmt). gave x end) (sym q.same),
      omega (arith, r.1, b.1, q.high),
      omega (arith, r.2, b.2),
    )
