use Rattle.std.proofs.lemmas.Result.{err_from_is_err_and}
use Rattle.parse_primary.proofs.Selecting.{member_gives, member_stops}
use Rattle.parse_primary.proofs.selectors.dot_member.Goals as goal

pub returns-in_err-selector : goal.returns-in_err-selector
returns-in_err-selector c =
    let p = err_from_is_err_and c.from_residual.result c.from_residual.ensures.1 in
    rw (p.1, p.2) (member_stops c.args.depth c.args.cursor.now c.member.new.cursor c.in_err-selector.field-0.0 c.in_err-selector.ensures)

pub returns : goal.returns
returns c = member_gives c.args.depth c.args.cursor.now c.member.new.cursor c.in_ok-selector.selector c.in_ok-selector.ensures
