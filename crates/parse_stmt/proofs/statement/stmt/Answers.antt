use Rattle.std.proofs.Common.{◌∙◌, sym, ap}
use Rattle.std.proofs.lemmas.Result.{err_from_is_err_and}
use Rattle.dart_tree.specs.Depth as height
use Rattle.dart_tree.specs.Tree as tree
use Rattle.dart_tree.specs.View as view
use Rattle.grammar_laws.proofs.Cuts.{gave}
use Rattle.token_cursor.proofs.Passing.{passes}
use Rattle.parse_jump.specs.Views.{labels_of}
use Rattle.parse_jump.proofs.Behind.{passes_low}
use Rattle.parse_nest.specs.Stages.{stmt_at}
use Rattle.parse_stmt.proofs.Labelled.{labels, bare, no_labels, no_bare, stmt_reads}
use Rattle.parse_stmt.proofs.statement.stmt.Goals as goal

pub returns-in_err-labels : goal.returns-in_err-labels
returns-in_err-labels g c =
    let p = err_from_is_err_and c.from_residual.result c.from_residual.ensures.1 in
    let d = c.args.depth in
    let start = c.args.cursor.now in
    rw (p.1, p.2) (passes_low labels_of (labels start) view.stmt height.stmt_height d (stmt_at d start) c.in_err-labels.field-0.0 c.labels.new.cursor
    (λ end e. no_labels d start end e) c.in_err-labels.ensures)

pub returns-in_err-statement : goal.returns-in_err-statement
returns-in_err-statement g c =
    let p = err_from_is_err_and c.from_residual-in_err-statement.result c.from_residual-in_err-statement.ensures.1 in
    let d = c.args.depth in
    let start = c.args.cursor.now in
    let mid = c.labels.new.cursor in
    rw (p.1, p.2) (passes view.stmt height.stmt_height d (bare d mid) view.stmt height.stmt_height d (stmt_at d start) c.in_err-statement.field-0.0 c.unlabelled_past_name.new.cursor
    (λ end e. no_bare d start (labels_of c.in_ok-labels.labels) mid end c.in_ok-labels.ensures e) c.in_err-statement.ensures)

pub returns : goal.returns
returns g c =
    let r = c.in_ok-statement.ensures in
    let q = c.in_ok-made.ensures in
    let d = c.args.depth in
    let end = c.unlabelled_past_name.new.cursor in (
      stmt_reads d c.args.cursor.now (labels_of c.in_ok-labels.labels) c.labels.new.cursor (view.stmt c.in_ok-statement.statement) end c.in_ok-labels.ensures r.0 ∙ ap (λ (x : tree.Stmt). gave x end) (sym q.same),
      r.1 ∙ sym q.high,
      r.2,
    )
