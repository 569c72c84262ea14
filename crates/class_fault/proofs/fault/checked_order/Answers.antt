use Rattle.std.proofs.Common.{◌∙◌, ap, Err, refl, subst as transport}
use Rattle.class_fault.specs.Fault.{IsFirstFrom}
use Rattle.class_fault.proofs.Acyclic.{no_cycle}
use Rattle.class_fault.proofs.fault.checked_order.Goals as goal

pub unreachable-requires : goal.unreachable-requires
unreachable-requires c =
    no_cycle c.args.program.now c.args.headers.now c.requires.graph c.requires.roots
    (transport (IsFirstFrom c.args.program.now c.args.headers.now 0) c.in-None-2.is c.in_ok-first_fault-in-Err-Cyclic.ensures)
    (c.order.ensures.cyclic (c.in-Err-Cyclic.is ∙ ap Err c.in-Err-Cyclic.field-0-is))
