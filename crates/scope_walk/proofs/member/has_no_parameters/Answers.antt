use Rattle.std.proofs.Common.{refl}
use Rattle.dart_tree.proofs.Rows.{view_the_parameters}
use Rattle.scope_walk.proofs.member.has_no_parameters.Goals as goal

pub returns-then-required : goal.returns-then-required
returns-then-required c = rw (view_the_parameters c.args.tree.now, ← c.is_no_list-required.ensures, ← c.is_no_list-optional.ensures, c.if-required.true) refl

pub returns-else-required : goal.returns-else-required
returns-else-required c = rw (view_the_parameters c.args.tree.now, ← c.is_no_list-required.ensures, c.if-required.false) refl
