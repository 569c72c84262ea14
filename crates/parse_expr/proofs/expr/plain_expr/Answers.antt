use Rattle.std.proofs.Common.{◌≡◌, ◌∙◌, ap, refl}
use Rattle.dart_tree.specs.Depth as height
use Rattle.dart_tree.specs.Tree as t
use Rattle.dart_tree.specs.View as view
use Rattle.parse_expr.proofs.Behind.{alone_height}
use Rattle.parse_expr.proofs.expr.plain_expr.Goals as goal

pub returns : goal.returns
returns c =
    let same : view.expr c.plain.result ≡ t.plain (view.operand c.args.operand) t.no_cascades = c.plain.ensures ∙ rw c.new.ensures.items refl in
    record { same = same; high = ap height.expr_height same ∙ alone_height (view.operand c.args.operand) }
