use Rattle.std.proofs.Common.{sym, ◌∙◌}
use Rattle.machine_loop.specs.Simple.{IsLeft}
use Rattle.machine_loop.proofs.Partly.{each, where_ok, left_done, left_left, choice_left, choice_done}
use Rattle.machine_loop.proofs.statements.choice_or_left.Goals as goal

pub returns-in-Missing : goal.returns-in-Missing
returns-in-Missing c =
    let form = c.in-If in
    let found = c.in-Some in
    choice_done c.args.a c.args.core.now c.args.run.now found.left form.condition form.first form.second c.deref.result.now found.value
    c.if-run-eq0.false form.is c.deref.ensures found.ensures.value found.ensures.less (sym c.part_of.ensures ∙ c.in-Missing.is)

pub returns-in-Given : goal.returns-in-Given
returns-in-Given c =
    let a = c.args.a in
    let core = c.args.core.now in
    let old = c.args.run.now in
    let form = c.in-If in
    let found = c.in-Some in
    let middle = record old { left = found.left } in
    let new = c.single.new.run in
    let inner = c.deref-in-Given.result.now in
    let some : IsLeft a core inner old middle = choice_left a core old found.left form.condition form.first form.second c.deref.result.now found.value
    c.if-run-eq0.false form.is c.deref.ensures found.ensures.value found.ensures.less c.in-Given.inner inner (sym c.part_of.ensures ∙ c.in-Given.is) c.deref-in-Given.ensures in
    where_ok c.single.result
    (λ o. each o (left_done a core inner old middle new some) (λ more. left_left a core inner more.now old middle new some))
    c.single.ensures
