use Rattle.std.proofs.Common.{◌∙◌, sym, ap}
use Rattle.dart_tree.specs.Depth as height
use Rattle.dart_tree.specs.Lists.{try_parts_of}
use Rattle.dart_tree.specs.Tree as tree
use Rattle.grammar_laws.proofs.Cuts.{gave}
use Rattle.parse_stmt.proofs.attempt.only_finally.Goals as goal

pub returns : goal.returns
returns g c =
    let r = c.in_ok-last.ensures in
    let is = ap try_parts_of (rw c.new-found.ensures.items at c.in_ok-push.ensures.items) in
    (r.0 ∙ ap (λ (l : tree.TryParts). gave l c.finally_part.new.cursor) (sym is), r.1 ∙ ap height.try_parts_height (sym is), r.2)
