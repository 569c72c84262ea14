use Rattle.std.proofs.Common.{◌∙◌, refl}
use Rattle.dart_tree.proofs.Rows.{view_arrow_body}
use Rattle.dart_node.proofs.make.statement.arrow.Goals as goal

pub returns : goal.returns
returns c = view_arrow_body c.args.arrow c.in_ok-value.value c.args.semicolon ∙ rw (c.in_ok-value.ensures.ok) refl
