use Rattle.std.proofs.Common.{◌≡◌, true, false, ◌∙◌, ap, rules}
use Rattle.core_program.specs.View as v
use Rattle.evaluation.specs.Parts.{form_of, is_closure}
use Rattle.core_program.specs.declared.form.Form as k
use Rattle.core_program.specs.declared.form.Unary.TheVariants as of_one
use Rattle.evaluation.specs.State.{answer, ends}
use Rattle.machine_frame.specs.Frames.{seen, mute}
use Rattle.machine_loop.proofs.Operated.{row_at_once, equal_at_last, check_at_once, unary_at_once, if_some, if_both}
use Rattle.machine_loop.proofs.operators.+nesting.Goals as goal

pub row_within-returns-clause-value : goal.row_within-returns-clause-value
row_within-returns-clause-value t c =
    let r = c.args.run.now in
    let two = c.in_ok-first in
    let one = c.in_ok-x in
    let other = c.in_ok-y in
    if_both c.operation.result _ _ _
    (λ p value operates. row_at_once c.args.a r.depth c.args.core.now c.in-Row.job c.in-Row.arguments two.first.now two.second.now (record (seen r) { left = c.args.left })
    (record (seen r) { left = one.middle }) (record (seen r) { left = other.after }) one.x other.y (mute (ends (answer p.0) (record (seen r) { left = p.1 })))
    c.in-Row.is two.ensures.0 two.ensures.1 operates c.if-left-eq0.false one.ensures.value other.ensures.value value)
    c.operation.ensures.value c.operation.ensures.operates

pub equal_within-returns-clause-value : goal.equal_within-returns-clause-value
equal_within-returns-clause-value t c =
    let r = c.args.run.now in
    let form = c.in-Binary in
    let one = c.in_ok-x in
    let other = c.in_ok-y in
    if_some c.equality.result _ _
    (λ p value. equal_at_last c.args.a r.depth c.args.core.now form.first form.second c.deref.result.now c.deref-2.result.now
    (record (seen r) { left = c.args.left }) (record (seen r) { left = one.middle }) (record (seen r) { left = other.after }) one.x other.y (mute (ends (answer p.0) (record (seen r) { left = p.1 })))
    (form.is ∙ ap (λ q. k.Binary q form.first form.second) c.in-Equal.is) c.deref.ensures c.deref-2.ensures c.if-left-eq0.false one.ensures.value other.ensures.value value)
    c.equality.ensures.value

pub unary_within-returns-else-not-admits-clause-value : goal.unary_within-returns-else-not-admits-clause-value
unary_within-returns-else-not-admits-clause-value t c =
    let r = c.args.run.now in
    let form = c.in-Unary in
    let inner = c.deref-in-Check.result.now in
    let found = c.in_ok-value-in-Check in
    let bare : is_closure (form_of (v.core inner)) ≡ false = first_of (cc, search rules) in
    let goes_on : c.admits.result ≡ true = first_of (cc, search rules) in
    check_at_once c.args.a r.depth c.args.core.now c.in-Check.number form.operand inner (record (seen r) { left = c.args.left }) found.value found.after (c.admits.ensures goes_on)
    (form.is ∙ ap (λ q. k.Unary q form.operand) c.in-Check.is) c.deref-in-Check.ensures bare c.if-left-eq0.false found.ensures.value

pub unary_within-returns-in_ok-this-in-Get-clause-value : goal.unary_within-returns-in_ok-this-in-Get-clause-value
unary_within-returns-in_ok-this-in-Get-clause-value t c =
    let r = c.args.run.now in
    let form = c.in-Unary in
    let inner = c.deref-in-Get.result.now in
    let bare : is_closure (form_of (v.core inner)) ≡ false = first_of (cc, search rules) in
    if_some c.got.result _ _
    (λ p value. unary_at_once c.args.a r.depth c.args.core.now (of_one.Get c.in-Get.name) form.operand inner (record (seen r) { left = c.args.left }) c.in_ok-this-in-Get.this c.in_ok-this-in-Get.after
    (mute (ends (answer p.0) (record (seen r) { left = p.1 })))
    (form.is ∙ ap (λ q. k.Unary q form.operand) c.in-Get.is) c.deref-in-Get.ensures bare c.if-left-eq0.false c.in_ok-this-in-Get.ensures.value value)
    c.got.ensures.value

pub operand_within-returns-in_default-clause-value : goal.operand_within-returns-in_default-clause-value
operand_within-returns-in_default-clause-value t c =
    let r = c.args.run.now in
    if_some c.within.result _ _ (λ p value. c.bare-rest.ensures.passes r.depth (seen r) p.0 p.1 value) c.within.ensures.value

pub operand_within-returns-in-Leaf-clause-value : goal.operand_within-returns-in-Leaf-clause-value
operand_within-returns-in-Leaf-clause-value t c =
    let r = c.args.run.now in
    if_some c.leaf_quick.result _ _ (λ p value. c.bare-rest.ensures.passes r.depth (seen r) p.0 p.1 (ap mute value)) c.leaf_quick.ensures.value

pub checked_within-returns-clause-value : goal.checked_within-returns-clause-value
checked_within-returns-clause-value t c =
    let r = c.args.run.now in
    let form = c.in-Unary in
    let inner = c.deref-2.result.now in
    let found = c.in_ok-value in
    let bare : is_closure (form_of (v.core inner)) ≡ false = first_of (cc, search rules) in
    let goes_on : c.admits.result ≡ true = first_of (cc, search rules) in
    check_at_once c.args.a r.depth c.args.core.now c.in-Check.number form.operand inner (record (seen r) { left = c.args.left }) found.value found.after (c.admits.ensures goes_on)
    (form.is ∙ ap (λ q. k.Unary q form.operand) c.in-Check.is) c.deref-2.ensures bare c.if-left-eq0.false found.ensures.value
