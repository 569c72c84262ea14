use Rattle.parse_unary.proofs.Staged.{target_is}
use Rattle.parse_unary.proofs.unary.target.Goals as goal

pub returns : goal.returns
returns g c = rw (target_is c.args.depth c.args.cursor.now) c.selected_target.ensures
