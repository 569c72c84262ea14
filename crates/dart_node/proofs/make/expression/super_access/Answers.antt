use Rattle.std.proofs.Common.{◌∙◌, refl}
use Rattle.dart_tree.proofs.Rows.{view_super_access}
use Rattle.dart_node.proofs.make.expression.super_access.Goals as goal

pub returns : goal.returns
returns c = view_super_access c.args.word c.in_ok-selector.selector ∙ rw (c.in_ok-selector.ensures.ok) refl
