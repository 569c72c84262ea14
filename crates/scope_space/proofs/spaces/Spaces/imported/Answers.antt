use Rattle.std.proofs.Common.{◌<◌, None, length, sym, subst}
use Rattle.std.proofs.lemmas.Option.{slice_get_read}
use Rattle.scope_space.specs.Namespace.{IsBound}
use Rattle.scope_space.proofs.Answering.{bound_told}
use Rattle.scope_space.proofs.spaces.Spaces.imported.Goals as goal

pub returns : goal.returns
returns c =
    let tables = c.self.inside.tables.items in
    let listed : c.args.library < length c.self.inside.libraries.items = subst (λ libraries. c.args.library < length libraries) (sym c.self.view_is) c.requires in
    let read = slice_get_read tables (length tables) c.args.library c.index.result.now (λ _. length tables) (subst (λ n. c.args.library < n) (sym c.self.invariant.from.long) listed) c.index.ensures in
    subst (λ libraries. IsBound libraries c.args.library None c.args.name.0 c.bound_of.result) c.self.view_is
    (bound_told c.self.inside.libraries.items tables c.self.invariant c.args.library listed c.index.result.now read None c.args.name.0 c.under.result.now c.bound_of.result c.under.ensures c.bound_of.ensures)
