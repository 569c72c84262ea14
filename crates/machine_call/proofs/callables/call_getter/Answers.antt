use Rattle.machine_frame.specs.Frames.{given_of}
use Rattle.machine_frame.specs.Outside.{setting_of}
use Rattle.std.proofs.Common.{◌≡◌, true, false}
use Rattle.evaluation.specs.Invocation.{getter_has_body}
use Rattle.machine_call.proofs.Pushed.{comes_to, getter_missing, getter_called}
use Rattle.machine_call.proofs.callables.call_getter.Goals as goal

pub returns-in-None-clause-meaning : goal.returns-in-None-clause-meaning
returns-in-None-clause-meaning c =
    let h : getter_has_body (setting_of c.args.a).program c.args.m ≡ false = cc c.in-None.ensures in
    comes_to c.args.a c.missing_from.new.run c.missing_from.result _ _ (getter_missing c.args.a c.args.run.now c.args.at c.args.passed.count c.args.value c.args.m (given_of c.args.passed c.args.run.now.operands.items) c.class_of-class.result c.class_of-class.ensures h) c.missing_from.ensures.meaning

pub returns-in_ok-push_frame-in-Some-clause-meaning : goal.returns-in_ok-push_frame-in-Some-clause-meaning
returns-in_ok-push_frame-in-Some-clause-meaning c =
    let h : getter_has_body (setting_of c.args.a).program c.args.m ≡ true = cc c.in-Some.ensures.0 in
    comes_to c.args.a c.getter_body.new.run c.getter_body.result _ _ (getter_called c.args.a c.args.run.now c.args.at c.push_frame.new.run c.args.passed c.args.value c.args.m c.in_ok-push_frame-in-Some.ensures.pushed c.in_ok-push_frame-in-Some.ensures.stays h) c.getter_body.ensures.meaning
