use Rattle.machine_lookup.proofs.Short.{reading_seen}
use Rattle.machine_lookup.proofs.shapes.reading_of_row.Goals as goal

pub returns-then-is_this_form : goal.returns-then-is_this_form
returns-then-is_this_form c =
    let one = c.in-Some in
    reading_seen c.args.job c.args.arguments.now c.in-Native.id one.first.now c.in-Native.is one.ensures.0 one.ensures.1 (c.is_this_form.ensures c.if-is_this_form.true)
