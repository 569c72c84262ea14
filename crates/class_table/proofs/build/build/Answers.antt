use Rattle.std.proofs.Common.{sym, subst as transport}
use Rattle.class_order.specs.Order.{AreListed}
use Rattle.class_table.proofs.Listed.{are_listed}
use Rattle.class_table.proofs.build.build.Goals as goal

pub checked_order-requires-clause-listed : goal.checked_order-requires-clause-listed
checked_order-requires-clause-listed c = transport AreListed (sym c.deref.ensures.value) (are_listed c.args.program.now c.in_ok-headers.headers.items c.requires c.in_ok-headers.ensures)
