use Rattle.machine_frame.specs.Frames.{given_of}
use Rattle.machine_call.proofs.Pushed.{comes_to, send_class}
use Rattle.machine_call.proofs.sends.send.Goals as goal

pub returns-clause-meaning : goal.returns-clause-meaning
returns-clause-meaning c =
    comes_to c.args.a c.send_from.new.run c.send_from.result _ _ (send_class c.args.a c.args.run.now c.args.at c.args.passed.count c.args.name c.args.this (given_of c.args.passed c.args.run.now.operands.items) c.class_of-class.result c.class_of-class.ensures) c.send_from.ensures.meaning
