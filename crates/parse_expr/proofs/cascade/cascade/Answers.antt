use Rattle.std.proofs.Common.{◌≡◌, ℕ, ◌+◌, ◌-◌, subst, arith}
use Rattle.token_cursor.specs.Gives.{GivesHigh}
use Rattle.parse_expr.specs.Views.{open_cascade, open_cascade_height}
use Rattle.parse_expr.proofs.Cascading.{cascade_never, cascade_at}
use Rattle.parse_expr.proofs.cascade.cascade.Goals as goal
use Rattle.parse_nest.specs.Stages.{exprs_at}

pub returns-then-depth-eq0 : goal.returns-then-depth-eq0
returns-then-depth-eq0 g c = cascade_never c.args.depth c.args.cursor.now (omega (arith, c.if-depth-eq0.true))

pub returns : goal.returns
returns g c =
    let d = c.args.depth in
    let e : (d - 1) + 1 ≡ d = omega (arith, c.if-depth-eq0.false) in
    subst (λ (m : ℕ). GivesHigh open_cascade open_cascade_height m ((exprs_at d).cascade c.args.cursor.now) c.cascade_over.result c.cascade_over.new.cursor) e
    (rw (cascade_at d c.args.cursor.now (omega (arith, c.if-depth-eq0.false))) c.cascade_over.ensures)
