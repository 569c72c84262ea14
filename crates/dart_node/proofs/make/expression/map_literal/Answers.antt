use Rattle.std.proofs.Common.{◌∙◌, refl}
use Rattle.dart_tree.proofs.Rows.{view_map_literal}
use Rattle.dart_node.proofs.make.expression.map_literal.Goals as goal

pub returns : goal.returns
returns c = view_map_literal c.in_ok-type_arguments.type_arguments c.args.opening c.args.entries c.args.comma c.args.closing ∙ rw (c.in_ok-type_arguments.ensures.ok) refl
