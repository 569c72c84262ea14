use Rattle.std.proofs.Common.{◌∷◌, ◌-◌, sym, ap, ◌∙◌}
use Rattle.machine_loop.proofs.Partly.{each, where_ok, left_done, left_left, only_left}
use Rattle.machine_loop.proofs.statements.only_or_left.Goals as goal

pub returns : goal.returns
returns c =
    let a = c.args.a in
    let core = c.args.core.now in
    let old = c.args.run.now in
    let middle = record old { left = old.left - 1 } in
    let new = c.single.new.run in
    let only = c.in-Some.only.now in
    let some = only_left a core old c.in-Block.forms only c.if-run-eq0.false c.in-Block.is
    (sym c.as_slice.ensures.value ∙ c.in-Some.ensures ∙ ap (λ l. only ∷ l) c.in-None.ensures) in
    where_ok c.single.result
    (λ o. each o (left_done a core only old middle new some) (λ more. left_left a core only more.now old middle new some))
    c.single.ensures
