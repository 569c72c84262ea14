use Rattle.std.proofs.Common.{◌≡◌, ◌∙◌, ap, subst, ℕ, Some, Err, inl, inr}
use Rattle.std.proofs.lemmas.Result.{IfOk-weaker}
use Rattle.class_fault.specs.declared.fault.Fault.{Fault}
use Rattle.class_fault.specs.declared.fault.Reason.TheVariants as r
use Rattle.dart_base.specs.Names.{AreDistinct}
use Rattle.dart_lower.specs.Given.{given_of}
use Rattle.scope_load.specs.State.{state_of}
use Rattle.scope_program.specs.Made.{AreScopesOf}
use Rattle.scope_program.specs.Program.{Scoping}
use Rattle.translation.specs.Program as p
use Rattle.core_print.specs.Core.{MakesCore, TranslatesTo}
use Rattle.core_print.proofs.Made.{made_in}
use Rattle.core_print.proofs.loaded.core_of.Goals as goal

pub returns-in-Ok : goal.returns-in-Ok
returns-in-Ok c =
    let state = state_of c.args.loaded.now in
    let made = c.in_ok-scopes.scopes in
    let k = c.in_ok-numbered-in-Ok.numbered in
    let (s, is, h) = c.in_ok-scopes.ensures in
    IfOk-weaker c.translate.result
    (λ found. (s : Scoping) → AreScopesOf s made → (main : ℕ) × (s.main ≡ Some main) × TranslatesTo s.texts k (p.core (given_of s state k main)) found)
    (MakesCore state)
    (λ found known.
    let (main, starts, comes) = known s h in (
      s,
      is,
      subst AreDistinct h.texts c.count-count.ensures.distinct,
      made_in state s found (record {
        classes = k;
        main = main;
        table = record { built = c.in-Ok.classes; is_built = c.in-Ok.ensures.built s is h; numbered = c.in_ok-numbered-in-Ok.ensures.numbered s h };
        starts = starts;
        comes_to = comes;
      }),
    ))
    c.translate.ensures

pub returns-in-Err-CyclicClasses : goal.returns-in-Err-CyclicClasses
returns-in-Err-CyclicClasses c =
    let (s, is, h) = c.in_ok-scopes.ensures in
    let f : Fault = record { place = c.in-Err-CyclicClasses.field-0-0; reason = r.CyclicClasses } in (
      s,
      is,
      subst AreDistinct h.texts c.count-count.ensures.distinct,
      inl (inl (f, c.build.ensures.refused s is h f (c.in-Err-CyclicClasses.is ∙ ap Err c.in-Err-CyclicClasses.field-0-is))),
    )

pub returns-in-Err-BadSuper : goal.returns-in-Err-BadSuper
returns-in-Err-BadSuper c =
    let (s, is, h) = c.in_ok-scopes.ensures in
    let f : Fault = record { place = c.in-Err-BadSuper.field-0-0; reason = r.BadSuper } in (
      s,
      is,
      subst AreDistinct h.texts c.count-count.ensures.distinct,
      inl (inl (f, c.build.ensures.refused s is h f (c.in-Err-BadSuper.is ∙ ap Err c.in-Err-BadSuper.field-0-is))),
    )

pub returns-in-Err-BadMixin : goal.returns-in-Err-BadMixin
returns-in-Err-BadMixin c =
    let (s, is, h) = c.in_ok-scopes.ensures in
    let f : Fault = record { place = c.in-Err-BadMixin.field-0-0; reason = r.BadMixin } in (
      s,
      is,
      subst AreDistinct h.texts c.count-count.ensures.distinct,
      inl (inl (f, c.build.ensures.refused s is h f (c.in-Err-BadMixin.is ∙ ap Err c.in-Err-BadMixin.field-0-is))),
    )

pub returns-in-Err-TypesTooLarge : goal.returns-in-Err-TypesTooLarge
returns-in-Err-TypesTooLarge c =
    let (s, is, h) = c.in_ok-scopes.ensures in
    let place = c.in-Err-TypesTooLarge.field-0-0 in (
      s,
      is,
      subst AreDistinct h.texts c.count-count.ensures.distinct,
      inl (inr (place, c.build.ensures.too_large s is h place (c.in-Err-TypesTooLarge.is ∙ ap Err c.in-Err-TypesTooLarge.field-0-is))),
    )
