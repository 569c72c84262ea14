use Rattle.std.proofs.Common.{◌≡◌, ◌∙◌, ap, subst, ℕ, Some, Err, inl, inr}
use Rattle.std.proofs.lemmas.Result.{IfOk-weaker}
use Rattle.class_fault.specs.declared.fault.Fault.{Fault}
use Rattle.class_fault.specs.declared.fault.Reason.TheVariants as r
use Rattle.dart_base.specs.Names.{AreDistinct}
use Rattle.dart_base.specs.declared.place.Place.{Place}
use Rattle.dart_lower.specs.Given.{given_of}
use Rattle.scope_load.specs.State.{state_of}
use Rattle.scope_program.specs.Made.{AreScopesOf}
use Rattle.scope_program.specs.Program.{Scoping}
use Rattle.translation.specs.Program as p
use Rattle.dart_execute.specs.Execution.{ExecutesAs, Follows, allowed, asked_mode}
use Rattle.dart_execute.specs.declared.cause.Cause.TheVariants as cause
use Rattle.dart_execute.specs.declared.execution.Execution.TheVariants.{Refused}
use Rattle.dart_execute.proofs.execution.execute.Goals as goal

pub returns-in-Ok : goal.returns-in-Ok
returns-in-Ok c =
    let state = state_of c.args.loaded.now in
    let options = c.args.options in
    let mode = asked_mode options.checked in
    let budget = allowed options.budget in
    let made = c.in_ok-scopes.scopes in
    let k = c.in_ok-numbered-in-Ok.numbered in
    let (s, is, h) = c.in_ok-scopes.ensures in
    IfOk-weaker c.translate.result
    (λ out. (s : Scoping) → AreScopesOf s made → (main : ℕ) × (s.main ≡ Some main) × Follows state s.kept s.texts k mode budget (p.core (given_of s state k main)) out)
    (ExecutesAs state options)
    (λ out known.
    let (main, starts, follows) = known s h in (
      s,
      is,
      subst AreDistinct h.texts c.count-count.ensures.distinct,
      inr (inr (record {
        classes = k;
        main = main;
        table = record { built = c.in-Ok.classes; is_built = c.in-Ok.ensures.built s is h; numbered = c.in_ok-numbered-in-Ok.ensures.numbered s h };
        starts = starts;
        follows = follows;
      })),
    ))
    c.translate.ensures

pub returns-in-Err-CyclicClasses : goal.returns-in-Err-CyclicClasses
returns-in-Err-CyclicClasses c =
    let (s, is, h) = c.in_ok-scopes.ensures in
    let f : Fault = record { place = c.in-Err-CyclicClasses.place; reason = r.CyclicClasses } in (
      s,
      is,
      subst AreDistinct h.texts c.count-count.ensures.distinct,
      inl (
        f,
        c.build.ensures.refused s is h f (c.in-Err-CyclicClasses.is ∙ ap Err c.in-Err-CyclicClasses.field-0-is),
        ap (λ (place : Place). Refused place cause.CyclicClasses) c.in-Err-CyclicClasses.place-is,
      ),
    )

pub returns-in-Err-BadSuper : goal.returns-in-Err-BadSuper
returns-in-Err-BadSuper c =
    let (s, is, h) = c.in_ok-scopes.ensures in
    let f : Fault = record { place = c.in-Err-BadSuper.place; reason = r.BadSuper } in (
      s,
      is,
      subst AreDistinct h.texts c.count-count.ensures.distinct,
      inl (
        f,
        c.build.ensures.refused s is h f (c.in-Err-BadSuper.is ∙ ap Err c.in-Err-BadSuper.field-0-is),
        ap (λ (place : Place). Refused place cause.BadSuper) c.in-Err-BadSuper.place-is,
      ),
    )

pub returns-in-Err-BadMixin : goal.returns-in-Err-BadMixin
returns-in-Err-BadMixin c =
    let (s, is, h) = c.in_ok-scopes.ensures in
    let f : Fault = record { place = c.in-Err-BadMixin.place; reason = r.BadMixin } in (
      s,
      is,
      subst AreDistinct h.texts c.count-count.ensures.distinct,
      inl (
        f,
        c.build.ensures.refused s is h f (c.in-Err-BadMixin.is ∙ ap Err c.in-Err-BadMixin.field-0-is),
        ap (λ (place : Place). Refused place cause.BadMixin) c.in-Err-BadMixin.place-is,
      ),
    )

pub returns-in-Err-TypesTooLarge : goal.returns-in-Err-TypesTooLarge
returns-in-Err-TypesTooLarge c =
    let (s, is, h) = c.in_ok-scopes.ensures in
    let place = c.in-Err-TypesTooLarge.place in (
      s,
      is,
      subst AreDistinct h.texts c.count-count.ensures.distinct,
      inr (inl (
        place,
        c.build.ensures.too_large s is h place (c.in-Err-TypesTooLarge.is ∙ ap Err c.in-Err-TypesTooLarge.field-0-is),
        ap (λ (place : Place). Refused place cause.TypesTooLarge) c.in-Err-TypesTooLarge.place-is,
      )),
    )
