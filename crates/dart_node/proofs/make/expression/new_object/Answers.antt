use Rattle.std.proofs.Common.{◌∙◌, refl}
use Rattle.dart_tree.proofs.Rows.{view_new_object}
use Rattle.dart_node.proofs.make.expression.new_object.Goals as goal

pub returns : goal.returns
returns c = view_new_object c.args.creation c.in_ok-class.class c.in_ok-constructor.constructor c.in_ok-arguments.arguments ∙ rw (c.in_ok-class.ensures.ok, c.in_ok-constructor.ensures.ok, c.in_ok-arguments.ensures.ok) refl
