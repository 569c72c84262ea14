use Rattle.std.proofs.Common.{◌≡◌, ◌∙◌, sym, ap, subst, ◌++◌}
use Rattle.dart_lex.specs.Render.{rendered, Restores}
use Rattle.dart_lex.proofs.RenderLaws.{rendered_restores}
use Rattle.dart_lex.proofs.render.render.Goals as goal

pub returns-clause-restores : goal.returns-clause-restores
returns-clause-restores c =
    let text : c.push_tokens.new.out ≡ rendered c.args.tokens.now = c.in_ok-push_tokens.ensures ∙ ap (λ bytes. bytes ++ rendered c.args.tokens.now) c.new-out.ensures in
    λ unit rise nest of_unit small. subst (Restores unit c.args.tokens.now) (sym text) (rendered_restores unit c.args.tokens.now rise nest of_unit small)
