use Rattle.std.proofs.Common.{refl}
use Rattle.dart_tree.proofs.Rows.{view_the_function}
use Rattle.scope_reason.proofs.main_function.is_main_function.Goals as goal

pub returns-then-named : goal.returns-then-named
returns-then-named c = rw (view_the_function c.args.tree.now, ← c.is_main_name-named.ensures, ← c.requires_at_most_one-fits.ensures, c.if-named.true) refl

pub returns-else-named : goal.returns-else-named
returns-else-named c = rw (view_the_function c.args.tree.now, ← c.is_main_name-named.ensures, c.if-named.false) refl
