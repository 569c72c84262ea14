use Rattle.machine_frame.specs.Frames.{given_of}
use Rattle.machine_call.proofs.Pushed.{comes_to, object_fitting, object_missing}
use Rattle.machine_call.proofs.callables.object_call.Goals as goal

pub returns-in-Some-clause-meaning : goal.returns-in-Some-clause-meaning
returns-in-Some-clause-meaning c =
    comes_to c.args.a c.fitting.new.run c.fitting.result _ _ (object_fitting c.args.a c.args.run.now c.args.at c.args.passed.count c.args.value (given_of c.args.passed c.args.run.now.operands.items) c.in-Some.m c.class_of-class.result c.class_of-class.ensures c.in-Some.ensures) c.fitting.ensures.meaning

pub returns-in-None-getter-clause-meaning : goal.returns-in-None-getter-clause-meaning
returns-in-None-getter-clause-meaning c =
    comes_to c.args.a c.missing_from.new.run c.missing_from.result _ _ (object_missing c.args.a c.args.run.now c.args.at c.args.passed.count c.args.value (given_of c.args.passed c.args.run.now.operands.items) c.class_of-class.result c.class_of-class.ensures c.in-None.ensures c.in-None-getter.ensures) c.missing_from.ensures.meaning
