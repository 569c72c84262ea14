use Rattle.std.proofs.Common.{sym, subst}
use Rattle.translation.specs.Surroundings.{Meaning}
use Rattle.scope_outer.specs.Outside.{MeansBehind, MeansBehind.bound_behind, scopes_of}
use Rattle.scope_outer.proofs.meaning.means_behind.Goals as goal

pub returns : goal.returns
returns c =
    let P : Meaning → Type 0 = λ m. MeansBehind (scopes_of c.args.scopes) c.args.library c.args.prefix.0 c.args.name.0 m in
    subst P (sym c.bound_sense.ensures) (bound_behind c.prefixed.result c.prefixed.ensures)
