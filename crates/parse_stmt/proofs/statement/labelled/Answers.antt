use Rattle.std.proofs.Common.{◌≡◌}
use Rattle.std.proofs.lemmas.Result.{IfOk-weaker}
use Rattle.dart_tree.specs.Depth as height
use Rattle.dart_tree.specs.Tree as tree
use Rattle.dart_tree.specs.View as view
use Rattle.parse_stmt.proofs.Labelled.{labelled_high}
use Rattle.parse_stmt.proofs.statement.labelled.Goals as goal

pub returns : goal.returns
returns c =
    let labels = c.args.labels.items in
    let inner = view.stmt c.args.statement in
    record {
      same = c.labelled.ensures;
      high = IfOk-weaker c.labelled.result (λ x. view.stmt x ≡ tree.with_labels labels inner) (λ x. height.stmt_height (view.stmt x) ≡ height.stmt_height inner)
          (λ x is. labelled_high (view.stmt x) inner labels is) c.labelled.ensures;
    }
