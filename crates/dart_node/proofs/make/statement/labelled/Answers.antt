use Rattle.std.proofs.Common.{◌∙◌, refl}
use Rattle.dart_tree.proofs.Rows.{view_labelled}
use Rattle.dart_node.proofs.make.statement.labelled.Goals as goal

pub returns : goal.returns
returns c = view_labelled c.args.labels c.in_ok-statement.statement ∙ rw (c.in_ok-statement.ensures.ok) refl
