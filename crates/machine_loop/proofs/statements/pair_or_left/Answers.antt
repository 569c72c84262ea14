use Rattle.std.proofs.Common.{◌≡◌, ◌∷◌, true, sym, ap, ◌∙◌, rules, arith}
use Rattle.machine_loop.proofs.Partly.{each, left_done, left_left, pair_left}
use Rattle.machine_loop.proofs.statements.pair_or_left.Goals as goal

pub returns : goal.returns
returns c =
    let a = c.args.a in
    let core = c.args.core.now in
    let old = c.args.run.now in
    let middle = c.written.new.run in
    let new = c.read_or_left.new.run in
    let first = c.in-Some.first.now in
    let second = c.in-Some-first_form.second.now in
    let is_done : c.in_ok-written.field-0 ≡ true = first_of (cc, search rules, grind arith) in
    let some = pair_left a core old middle c.in-Block.forms first second c.in-Some.rest c.if-run-eq0.false c.in-Block.is (sym c.as_slice.ensures.value ∙ c.in-Some.ensures)
    (c.in-Some-first_form.ensures ∙ ap (λ l. second ∷ l) c.in-None.ensures) (c.in_ok-written.ensures.done is_done) in
    each c.read_or_left.result (left_done a core second old middle new some) (λ more. left_left a core second more.now old middle new some) c.read_or_left.ensures
