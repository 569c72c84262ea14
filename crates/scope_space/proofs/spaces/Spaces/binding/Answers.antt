use Rattle.std.proofs.Common.{◌∙◌, ◌<◌, None, length, sym, ap, subst}
use Rattle.std.proofs.lemmas.Option.{slice_get_read}
use Rattle.scope_space.specs.declared.bound.Binding.TheVariants.{Own, Prefix, Imported}
use Rattle.scope_space.specs.Namespace.{declares_in, IsBinding, IsBinding.own_name, IsBinding.prefix_name, IsBinding.imported_name, IsBound}
use Rattle.scope_space.proofs.Answering.{prefix_told}
use Rattle.scope_space.proofs.spaces.Spaces.binding.Goals as goal

pub returns-then-declares : goal.returns-then-declares
returns-then-declares c =
    let libraries = c.self.inside.libraries.items in
    let listed : c.args.library < length libraries = subst (λ libraries. c.args.library < length libraries) (sym c.self.view_is) c.requires in
    let read = slice_get_read libraries (length libraries) c.args.library c.index.result.now (λ _. length libraries) listed c.index.ensures in
    subst (λ libraries. IsBinding libraries c.args.library c.args.name.0 Own) c.self.view_is
    (own_name (ap (λ o. declares_in o c.args.name.0) read ∙ sym c.declares.ensures ∙ c.if-declares.true))

pub returns-then-has : goal.returns-then-has
returns-then-has c =
    let libraries = c.self.inside.libraries.items in
    let tables = c.self.inside.tables.items in
    let listed : c.args.library < length libraries = subst (λ libraries. c.args.library < length libraries) (sym c.self.view_is) c.requires in
    let read = slice_get_read libraries (length libraries) c.args.library c.index.result.now (λ _. length libraries) listed c.index.ensures in
    let read-2 = slice_get_read tables (length tables) c.args.library c.index-else-declares.result.now (λ _. length tables) (subst (λ n. c.args.library < n) (sym c.self.invariant.from.long) listed) c.index-else-declares.ensures in
    let told = prefix_told libraries tables c.self.invariant c.args.library listed c.index-else-declares.result.now read-2 c.args.name.0 in
    subst (λ libraries. IsBinding libraries c.args.library c.args.name.0 Prefix) c.self.view_is
    (prefix_name (ap (λ o. declares_in o c.args.name.0) read ∙ sym c.declares.ensures ∙ c.if-declares.false) (sym told ∙ sym c.has.ensures ∙ c.if-has.true))

pub returns-else-has : goal.returns-else-has
returns-else-has c =
    let libraries = c.self.inside.libraries.items in
    let tables = c.self.inside.tables.items in
    let listed : c.args.library < length libraries = subst (λ libraries. c.args.library < length libraries) (sym c.self.view_is) c.requires in
    let read = slice_get_read libraries (length libraries) c.args.library c.index.result.now (λ _. length libraries) listed c.index.ensures in
    let read-2 = slice_get_read tables (length tables) c.args.library c.index-else-declares.result.now (λ _. length tables) (subst (λ n. c.args.library < n) (sym c.self.invariant.from.long) listed) c.index-else-declares.ensures in
    let told = prefix_told libraries tables c.self.invariant c.args.library listed c.index-else-declares.result.now read-2 c.args.name.0 in
    subst (λ libraries. IsBinding libraries c.args.library c.args.name.0 (Imported c.imported.result)) c.self.view_is
    (imported_name c.imported.result (ap (λ o. declares_in o c.args.name.0) read ∙ sym c.declares.ensures ∙ c.if-declares.false) (sym told ∙ sym c.has.ensures ∙ c.if-has.false)
    (subst (λ libraries. IsBound libraries c.args.library None c.args.name.0 c.imported.result) (sym c.self.view_is) c.imported.ensures))
