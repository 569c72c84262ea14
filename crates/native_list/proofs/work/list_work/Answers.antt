use Rattle.std.proofs.Common.{[]}
use Rattle.native_list.proofs.Still.{new_still}
use Rattle.native_list.proofs.work.list_work.Goals as goal

pub returns-in-ListNew : goal.returns-in-ListNew
returns-in-ListNew c = new_still c.args.native c.in-ListNew.is [] c.args.store.now c.args.this c.args.x c.args.y
