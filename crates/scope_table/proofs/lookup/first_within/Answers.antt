use Rattle.std.proofs.Common.{◌≡◌, ◌-◌, ◌<◌, ◌≤◌, false, get_or, length, sym, subst, arith}
use Rattle.std.proofs.lemmas.List.{get_or_default}
use Rattle.scope_declared.specs.declared.declaration.Declared.{Declared}
use Rattle.scope_table.specs.Order.{place_before}
use Rattle.scope_table.proofs.Best.{nothing, reaches-further}
use Rattle.scope_table.proofs.lookup.first_within.Goals as goal

pub loop-first-smaller : goal.loop-first-smaller
loop-first-smaller c =
    let e = c.requires.enclosing (c.loop-first.first - 1) (omega (arith, c.requires.earlier)) in
    omega (arith, e.0)

pub loop-first-preserved : goal.loop-first-preserved
loop-first-preserved c =
    let e = c.requires.enclosing (c.loop-first.first - 1) (omega (arith, c.requires.earlier)) in
    let within : c.loop-first.first - 1 < length c.args.entries.now = omega arith in
    record {
      low = omega (arith, e.0);
      shorter =
          reaches-further c.args.entries.now (get_or c.args.entries.now c.args.index nothing).extent.last (c.loop-first.first - 1)
          (get_or c.args.outer.now (c.loop-first.first - 1) 0) (get_or c.args.entries.now (c.loop-first.first - 1) nothing) within
          (get_or_default c.args.entries.now (c.loop-first.first - 1) nothing (get_or c.args.entries.now (c.loop-first.first - 1) nothing) within)
          (sym c.if-place_before.ensures) e.1 c.args.index (λ j d from to. c.loop-first.invariant.shorter j d (omega (arith, from)) to);
    }

pub returns-then-place_before-clause-shorter : goal.returns-then-place_before-clause-shorter
returns-then-place_before-clause-shorter c j d from to =
    subst (λ (e : Declared). place_before e.extent.last (get_or c.args.entries.now j d).extent.last ≡ false)
    (get_or_default c.args.entries.now c.args.index nothing d c.requires.within) (c.loop-first.invariant.shorter j d from to)

pub returns-clause-shorter : goal.returns-clause-shorter
returns-clause-shorter c j d from to =
    subst (λ (e : Declared). place_before e.extent.last (get_or c.args.entries.now j d).extent.last ≡ false)
    (get_or_default c.args.entries.now c.args.index nothing d c.requires.within) (c.loop-first.invariant.shorter j d from to)
