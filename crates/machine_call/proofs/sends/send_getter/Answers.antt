use Rattle.machine_call.proofs.Pushed.{comes_to, getter_sent}
use Rattle.machine_call.proofs.sends.send_getter.Goals as goal

pub returns-in_ok-push_frame-in-Some-clause-meaning : goal.returns-in_ok-push_frame-in-Some-clause-meaning
returns-in_ok-push_frame-in-Some-clause-meaning c =
    comes_to c.args.a c.getter_call.new.run c.getter_call.result _ _ (getter_sent c.args.a c.args.run.now c.args.at c.push_frame.new.run c.args.passed c.args.this c.in-Some.m c.args.class c.args.name c.in_ok-push_frame-in-Some.ensures.pushed c.in_ok-push_frame-in-Some.ensures.stays c.in-Some.ensures) c.getter_call.ensures.meaning
