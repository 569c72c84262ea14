use Rattle.std.proofs.Common.{[], sym, subst}
use Rattle.scope_program.specs.Made.{AreClassesOf}
use Rattle.scope_program.proofs.class.class_scopes.Goals as goal

pub returns : goal.returns
returns c = c.in_ok-add_units.ensures [] (subst (AreClassesOf c.args.declarations.names.now c.args.declarations.numbered.now []) (sym c.new-made.ensures.items) tt)
