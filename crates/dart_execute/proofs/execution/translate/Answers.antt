use Rattle.std.proofs.Common.{◌≡◌, ◌∙◌, sym, ap, refl, subst, ℕ, List, Some}
use Rattle.std.proofs.lemmas.Result.{IfOk-weaker}
use Rattle.lower_leaf.specs.Around.{Around}
use Rattle.lower_program.specs.Views as views
use Rattle.dart_lower.specs.Given.{annotated_around, given_of}
use Rattle.scope_load.specs.State.{state_of}
use Rattle.scope_program.specs.Made.{AreScopesOf}
use Rattle.scope_program.specs.Program.{Scoping}
use Rattle.translation.specs.Program as p
use Rattle.translation.specs.Surroundings.{Text}
use Rattle.dart_execute.specs.Execution.{Follows, RunsIf, allowed, asked_mode, mentions_isolate}
use Rattle.dart_execute.specs.Joined.{IsJoined}
use Rattle.dart_execute.proofs.Joined.{joined}
use Rattle.dart_execute.proofs.execution.translate.Goals as goal

pub returns-in-Accepted : goal.returns-in-Accepted
returns-in-Accepted c =
    let state = state_of c.args.loaded.now in
    let k = c.args.classes in
    let n = c.in-Some.main in
    let translated = c.in-Accepted.translated in
    let mode = asked_mode c.args.options.checked in
    let budget = allowed c.args.options.budget in
    IfOk-weaker c.run_translated.result
    (λ out. (a : Around) → a.texts ≡ c.args.scopes.names → IsJoined a translated.classes k
    → RunsIf (mentions_isolate state) c.args.scopes.kept c.args.scopes.names k (views.program a translated) mode budget out)
    (λ out. (s : Scoping) → AreScopesOf s c.args.scopes → (main : ℕ) × (s.main ≡ Some main)
    × Follows state s.kept s.texts k mode budget (p.core (given_of s state k main)) out)
    (λ out runs s h.
    let a = annotated_around s state k in
    let of = views.program a translated in
    let core : p.core (given_of s state k n) ≡ p.accepted of = sym (c.in_ok-why.ensures s h) ∙ ap (views.outcome a) c.in-Accepted.is in
    let is : IsJoined a translated.classes k = joined a (given_of s state k n) k translated refl refl refl core in (
      n,
      sym h.main ∙ c.in-Some.is,
      subst (λ (answer : p.Answer). Follows state s.kept s.texts k mode budget answer out) (sym core)
          (subst (λ (t : List Text). RunsIf (mentions_isolate state) t s.texts k of mode budget out) h.kept
          (subst (λ (t : List Text). RunsIf (mentions_isolate state) c.args.scopes.kept t k of mode budget out) h.texts (runs a (sym h.texts) is))),
    ))
    c.run_translated.ensures
