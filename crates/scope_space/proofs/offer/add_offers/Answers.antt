use Rattle.std.proofs.Common.{◌≡◌, ◌∙◌, ◌<◌, false, Some, None, length, get_or, sym, ap, arith}
use Rattle.std.proofs.lemmas.Bool.{cond-true, cond-false}
use Rattle.scope_space.specs.declared.handed.Handed.{Handed}
use Rattle.scope_space.specs.declared.offer.Offer.{Offer}
use Rattle.scope_space.specs.Library.{passes}
use Rattle.scope_space.specs.Building.{offered}
use Rattle.scope_space.proofs.Members.{taken_more, passed_more}
use Rattle.scope_space.proofs.offer.add_offers.Goals.{then-passes+in_ok-push, else-passes}
use Rattle.scope_space.proofs.offer.add_offers.Goals as goal

pub loop-one-preserved : goal.loop-one-preserved
loop-one-preserved c =
    let import = c.args.import.now in
    let handed = c.args.handed.now in
    let i = c.loop-one.one-index in
    let now = c.loop-one.offers.items in
    let none : Handed = record { library = 0; name = record { 0 = 0 }; owner = 0; is_dart = false } in
    let one : Handed = get_or handed i none in
    let offer : Offer = record { name = one.name; prefix = import.prefix; owner = one.owner; is_dart = one.is_dart } in
    let listed : i < length handed = omega (arith, c.loop-one-test.true) in
    let told : passes one.name.0 import.combinators.items ≡ c.passes.result = ap (passes one.name.0) (sym c.deref.ensures.value) ∙ sym c.passes.ensures in
    elim c.if-passes.branch [
      | then-passes+in_ok-push w ↦
          ap (λ v. v.items) w.offers-is ∙ w.in_ok-push.ensures.items
          ∙ taken_more (offered import) handed i none offer c.args.offers.now.items now c.loop-one.invariant listed
          (cond-true (passes one.name.0 import.combinators.items) (Some offer) None (told ∙ w.if-passes.true))
      | else-passes w ↦
          ap (λ v. v.items) w.offers-is
          ∙ passed_more (offered import) handed i none c.args.offers.now.items now c.loop-one.invariant listed
          (cond-false (passes one.name.0 import.combinators.items) (Some offer) None (told ∙ w.if-passes.false))
    ]
