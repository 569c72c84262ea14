use Rattle.std.proofs.lemmas.Result.{err_from_is_err_and}
use Rattle.parse_primary.proofs.Opening.{super_opens, super_stops}
use Rattle.parse_primary.proofs.primary.open_super.Goals as goal

pub returns-in_err-primary : goal.returns-in_err-primary
returns-in_err-primary g c =
    let p = err_from_is_err_and c.from_residual.result c.from_residual.ensures.1 in
    rw (p.1, p.2) (super_stops c.args.depth c.args.cursor.now c.super_primary.new.cursor c.in_err-primary.field-0.0 c.in_err-primary.ensures)

pub returns : goal.returns
returns g c = super_opens c.args.depth c.args.cursor.now c.super_primary.new.cursor c.in_ok-primary.primary c.in_ok-primary.height c.in_ok-primary.ensures
