use Rattle.std.proofs.Common.{◌≡◌, ◌∙◌, Some, sym, ap, subst as transport}
use Rattle.class_order.specs.Order.{AreListed}
use Rattle.class_table.proofs.Listed.{are_listed}
use Rattle.class_size.specs.Built.{IsSizedTo}
use Rattle.class_size.proofs.build.build.Goals as goal

pub checked_order-requires-clause-listed : goal.checked_order-requires-clause-listed
checked_order-requires-clause-listed c = transport AreListed (sym c.deref.ensures.value) (are_listed c.args.program.now c.in_ok-headers.headers.items c.requires c.in_ok-headers.ensures)

pub returns-in-Some-clause-too_large : goal.returns-in-Some-clause-too_large
returns-in-Some-clause-too_large c = λ place e.
    let q : c.in-Some.place ≡ place = cc in
    (c.in_ok-classes-in-Ok.classes, transport (IsSizedTo c.args.program.now c.in_ok-classes-in-Ok.classes) (c.in-Some.is ∙ ap Some q) c.in_ok-classes-in-Ok.ensures.sized)
