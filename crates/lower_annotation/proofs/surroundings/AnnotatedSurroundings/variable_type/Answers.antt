use Rattle.std.proofs.Common.{◌≡◌, ◌∙◌, refl, sym, ap}
use Rattle.std.proofs.lemmas.Result.{IfOk-weaker}
use Rattle.lower_leaf.specs.Around.{option_type}
use Rattle.lower_annotation.specs.Seen.{around_seen, types_in, types_or}
use Rattle.lower_annotation.proofs.Views.{option-same}
use Rattle.lower_annotation.proofs.surroundings.AnnotatedSurroundings.variable_type.Goals as goal

pub returns-in-None : goal.returns-in-None
returns-in-None g c =
    let x = c.args.self.now in
    let a = g.S.Surroundings.around x.base.now in
    let b = around_seen a x.count x.parameters.now x.waits x.aliases.now x.entries.now x.variables in
    IfOk-weaker c.variable_type.result (λ made. option_type a made ≡ a.tables.variable_type c.args.of.0) (λ made. option_type b made ≡ b.tables.variable_type c.args.of.0)
    (λ made known. option-same b a refl made ∙ known ∙ ap (λ v. types_or a v c.args.of.0) (sym c.in-None.is)) c.variable_type.ensures

pub returns-in-Some : goal.returns-in-Some
returns-in-Some g c =
    let x = c.args.self.now in
    let a = g.S.Surroundings.around x.base.now in
    let b = around_seen a x.count x.parameters.now x.waits x.aliases.now x.entries.now x.variables in
    IfOk-weaker c.type_at.result (λ made. option_type a made ≡ types_in a c.in-Some.all.now c.args.of.0) (λ made. option_type b made ≡ b.tables.variable_type c.args.of.0)
    (λ made known. option-same b a refl made ∙ known ∙ ap (λ v. types_or a v c.args.of.0) (sym c.in-Some.is)) c.type_at.ensures
