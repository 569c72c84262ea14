use Rattle.machine_form.proofs.Rowed.{row_leaves}
use Rattle.machine_form.proofs.rows.answered.Goals as goal

pub returns-clause-meaning : goal.returns-clause-meaning
returns-clause-meaning c =
    row_leaves c.args.a c.args.run.now c.args.one c.args.count c.push_frame.new.run c.args.rest c.args.value c.args.left
    c.in_ok-push_frame.ensures.pushed c.in_ok-push_frame.ensures.stays
