use Rattle.std.proofs.Common.{◌≡◌, ◌∙◌, refl, sym, ap}
use Rattle.std.proofs.lemmas.Result.{IfOk-weaker}
use Rattle.lower_leaf.specs.Around.{ty, types}
use Rattle.lower_annotation.specs.Seen.{around_seen, aliases_in}
use Rattle.lower_annotation.proofs.Views.{ty-same, types-same}
use Rattle.lower_annotation.proofs.surroundings.AnnotatedSurroundings.alias_type.Goals as goal

pub returns : goal.returns
returns g c =
    let x = c.args.self.now in
    let a = g.S.Surroundings.around x.base.now in
    let b = around_seen a x.count x.parameters.now x.waits x.aliases.now x.entries.now x.variables in
    let aliases = aliases_in a x.waits x.aliases.now x.entries.now in
    IfOk-weaker c.alias_type.result (λ made. ty a made ≡ aliases c.args.of.0 (types a c.args.given.items)) (λ made. ty b made ≡ b.tables.alias_type c.args.of.0 (types b c.args.given.items))
    (λ made known. ty-same b a refl made ∙ known ∙ ap (aliases c.args.of.0) (sym (types-same b a refl c.args.given.items))) c.alias_type.ensures
