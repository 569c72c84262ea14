use Rattle.std.proofs.Common.{◌≡◌, ◌∙◌, sym, ap, refl, subst, List, Some}
use Rattle.core_program.specs.declared.program.CoreProgram.{CoreProgram}
use Rattle.dart_execute.specs.Execution.{IsCoreOf}
use Rattle.dart_execute.specs.Joined.{IsJoined}
use Rattle.dart_execute.proofs.Joined.{joined}
use Rattle.dart_lower.specs.Given.{annotated_around, given_of}
use Rattle.lower_program.specs.Views as views
use Rattle.scope_load.specs.State.{state_of}
use Rattle.translation.specs.Program as p
use Rattle.translation.specs.Surroundings.{Text}
use Rattle.core_print.specs.Core.{TranslatesTo}
use Rattle.core_print.proofs.loaded.translate.Goals as goal

pub returns-in_ok-core-in-Accepted : goal.returns-in_ok-core-in-Accepted
returns-in_ok-core-in-Accepted c s h =
    let state = state_of c.args.loaded.now in
    let k = c.args.classes in
    let n = c.in-Some.main in
    let translated = c.in-Accepted.translated in
    let x : CoreProgram = c.in_ok-core-in-Accepted.core in
    let a = annotated_around s state k in
    let of = views.program a translated in
    let core : p.core (given_of s state k n) ≡ p.accepted of = sym (c.in_ok-lower.ensures s h) ∙ ap (views.outcome a) c.in-Accepted.is in
    let is : IsJoined a translated.classes k = joined a (given_of s state k n) k translated refl refl refl core in (
      n,
      sym h.main ∙ c.in-Some.is,
      subst (λ (answer : p.Answer). TranslatesTo s.texts k answer (Some x)) (sym core)
          (subst (λ (t : List Text). IsCoreOf t k of x) h.texts (c.in_ok-core-in-Accepted.ensures a (sym h.texts) is)),
    )
