use Rattle.std.proofs.Common.{sym}
use Rattle.native_list.proofs.Still.{still}
use Rattle.native_list.proofs.work.of_list_work.Goals as goal

pub returns-in_default : goal.returns-in_default
returns-in_default c =
    sym (still c.args.native c.in_default.not-ListRemoveAt c.in_default.not-ListInsert c.args.store.now c.args.r.0 c.args.fixed c.args.x c.args.y)
