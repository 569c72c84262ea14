use Rattle.std.proofs.Common.{◌≡◌, ◌∙◌, refl}
use Rattle.std.proofs.lemmas.Result.{IfOk-weaker}
use Rattle.lower_leaf.specs.Around.{mixin}
use Rattle.lower_annotation.specs.Seen.{around_seen}
use Rattle.lower_annotation.proofs.Views.{mixin-same}
use Rattle.lower_annotation.proofs.surroundings.AnnotatedSurroundings.mixin.Goals as goal

pub returns : goal.returns
returns g c =
    let x = c.args.self.now in
    let a = g.S.Surroundings.around x.base.now in
    let b = around_seen a x.count x.parameters.now x.waits x.aliases.now x.entries.now x.variables in
    IfOk-weaker c.mixin.result (λ made. mixin a made ≡ a.tables.mixin c.args.of.0) (λ made. mixin b made ≡ b.tables.mixin c.args.of.0)
    (λ made known. mixin-same b a refl made ∙ known) c.mixin.ensures
