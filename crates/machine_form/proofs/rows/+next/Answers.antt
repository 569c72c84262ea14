use Rattle.std.proofs.Common.{◌≡◌, ◌+◌, ◌∙◌, rules, arith}
use Rattle.machine_form.proofs.Entered.{comes_to}
use Rattle.machine_form.proofs.Rowed.{row_ends, row_waits, row_answers, row_goes}
use Rattle.machine_form.proofs.rows.+next.Goals as goal

pub returns-in-None-clause-meaning : goal.returns-in-None-clause-meaning
returns-in-None-clause-meaning t c =
    comes_to c.args.a c.finish.new.run c.finish.result _ _ (row_ends c.args.a c.args.run.now c.args.one c.args.count c.args.forms.now c.in-None.ensures) c.finish.ensures.meaning

pub returns-in_ok-push_frame-in-None-piece_value-clause-meaning : goal.returns-in_ok-push_frame-in-None-piece_value-clause-meaning
returns-in_ok-push_frame-in-None-piece_value-clause-meaning t c =
    let pushed = c.in_ok-push_frame-in-None-piece_value.ensures in
    row_waits c.args.a c.args.run.now c.args.one c.args.count c.push_frame.new.run c.args.forms.now c.in-Some.first.now c.in-Some.rest c.in-Some.ensures pushed.pushed pushed.stays c.in-None-piece_value.ensures.value

pub returns-in_ok-control-in-Some-piece_value-clause-meaning : goal.returns-in_ok-control-in-Some-piece_value-clause-meaning
returns-in_ok-control-in-Some-piece_value-clause-meaning t c =
    let pushed = c.in_ok-push_operand-in-Some-piece_value.ensures in
    let found = c.in-Some-piece_value in
    let next : c.in-Some-checked_add.more ≡ c.args.count + 1 = first_of (omega arith, search rules, grind arith) in
    c.in_ok-control-in-Some-piece_value.ensures.meaning
    ∙ row_goes c.args.a c.args.run.now c.args.one c.args.count c.args.forms.now c.in-Some.first.now c.in-Some.rest found.value found.left c.in-Some.ensures found.ensures.value
    c.push_operand.new.run c.in-Some-checked_add.more next pushed.pushed pushed.stays

pub returns-then-left-run-clause-meaning : goal.returns-then-left-run-clause-meaning
returns-then-left-run-clause-meaning t c =
    let found = c.in-Some-piece_value in
    comes_to c.args.a c.answered.new.run c.answered.result _ _
    (row_answers c.args.a c.args.run.now c.args.one c.args.count c.args.forms.now c.in-Some.first.now c.in-Some.rest found.value found.left c.in-Some.ensures found.ensures.value)
    c.answered.ensures.meaning
