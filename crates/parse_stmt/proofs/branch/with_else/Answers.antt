use Rattle.std.proofs.Common.{◌≡◌, ◌+◌, max, Some}
use Rattle.std.proofs.lemmas.Result.{IfOk-weaker}
use Rattle.dart_tree.specs.Depth as height
use Rattle.dart_tree.specs.View as view
use Rattle.syntax_readers.specs.Statements as spec
use Rattle.parse_stmt.specs.Views.{if_head_of, if_head_height, else_of, else_height}
use Rattle.parse_stmt.proofs.Following.{else_high}
use Rattle.parse_stmt.proofs.branch.with_else.Goals as goal

pub returns : goal.returns
returns c =
    let head = if_head_of c.args.head in
    let behind = else_of c.args.behind in
    record {
      same = c.if_else.ensures;
      high = IfOk-weaker c.if_else.result (λ x. view.stmt x ≡ spec.an_if_of (head, Some behind)) (λ x. height.stmt_height (view.stmt x) ≡ max (if_head_height head) (else_height behind) + 1)
          (λ x is. else_high (view.stmt x) head behind is) c.if_else.ensures;
    }
