use Rattle.std.proofs.Common.{◌∙◌}
use Rattle.machine_form.proofs.Entered.{comes_to}
use Rattle.machine_form.proofs.Received.{send_nobody, send_goes, apply_nobody, apply_goes, super_goes, call_goes, super_new_goes}
use Rattle.machine_form.proofs.rows.finish_job.Goals as goal

pub returns-in-None-clause-meaning : goal.returns-in-None-clause-meaning
returns-in-None-clause-meaning c =
    c.null_of_call.ensures.meaning ∙ send_nobody c.args.a c.args.run.now c.args.at c.args.passed c.args.job c.in-Send.name c.in-Send.is c.in-None.ensures

pub returns-in-Some-clause-meaning : goal.returns-in-Some-clause-meaning
returns-in-Some-clause-meaning c =
    let on = c.with_receiver in
    comes_to c.args.a c.send_operands.new.run c.send_operands.result _ _
    (send_goes c.args.a c.args.run.now c.args.at c.args.passed c.args.job c.in-Send.name on.result c.in-Some.this c.in-Send.is on.ensures.names on.ensures.rest.0 on.ensures.rest.1 c.in-Some.ensures) c.send_operands.ensures.meaning

pub returns-in-None-receiver-clause-meaning : goal.returns-in-None-receiver-clause-meaning
returns-in-None-receiver-clause-meaning c =
    c.null_of_call-in-None-receiver.ensures.meaning ∙ apply_nobody c.args.a c.args.run.now c.args.at c.args.passed c.args.job c.in-Apply.is c.in-None-receiver.ensures

pub returns-in-Some-receiver-clause-meaning : goal.returns-in-Some-receiver-clause-meaning
returns-in-Some-receiver-clause-meaning c =
    let on = c.with_receiver-in-Some-receiver in
    comes_to c.args.a c.apply.new.run c.apply.result _ _
    (apply_goes c.args.a c.args.run.now c.args.at c.args.passed c.args.job on.result c.in-Some-receiver.callee c.in-Apply.is on.ensures.names on.ensures.rest.0 on.ensures.rest.1 c.in-Some-receiver.ensures) c.apply.ensures.meaning

pub returns-in-Super-clause-meaning : goal.returns-in-Super-clause-meaning
returns-in-Super-clause-meaning c =
    comes_to c.args.a c.super_member.new.run c.super_member.result _ _ (super_goes c.args.a c.args.run.now c.args.at c.args.passed c.args.job c.in-Super.role c.in-Super.name c.in-Super.is c.requires.whole) c.super_member.ensures.meaning

pub returns-in-Call-clause-meaning : goal.returns-in-Call-clause-meaning
returns-in-Call-clause-meaning c =
    comes_to c.args.a c.static_call.new.run c.static_call.result _ _ (call_goes c.args.a c.args.run.now c.args.at c.args.passed c.args.job c.in-Call.f c.in-Call.is c.requires.whole) c.static_call.ensures.meaning

pub returns-in-SuperNew-clause-meaning : goal.returns-in-SuperNew-clause-meaning
returns-in-SuperNew-clause-meaning c =
    comes_to c.args.a c.construct.new.run c.construct.result _ _ (super_new_goes c.args.a c.args.run.now c.args.at c.args.passed c.args.job c.in-SuperNew.f c.in-SuperNew.is c.requires.whole) c.construct.ensures.meaning
