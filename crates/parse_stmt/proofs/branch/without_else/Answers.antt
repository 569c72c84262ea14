use Rattle.std.proofs.Common.{◌≡◌, ◌+◌, None}
use Rattle.std.proofs.lemmas.Result.{IfOk-weaker}
use Rattle.dart_tree.specs.Depth as height
use Rattle.dart_tree.specs.View as view
use Rattle.syntax_readers.specs.Statements as spec
use Rattle.parse_stmt.specs.Views.{if_head_of, if_head_height}
use Rattle.parse_stmt.proofs.Following.{alone_high}
use Rattle.parse_stmt.proofs.branch.without_else.Goals as goal

pub returns : goal.returns
returns c =
    let head = if_head_of c.args.head in
    record {
      same = c.if_statement.ensures;
      high = IfOk-weaker c.if_statement.result (λ x. view.stmt x ≡ spec.an_if_of (head, None)) (λ x. height.stmt_height (view.stmt x) ≡ if_head_height head + 1)
          (λ x is. alone_high (view.stmt x) head is) c.if_statement.ensures;
    }
