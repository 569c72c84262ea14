use Rattle.machine_frame.specs.Frames.{given_of, callee_of}
use Rattle.machine_frame.specs.Outside.{setting_of}
use Rattle.std.proofs.Common.{◌≡◌, false}
use Rattle.evaluation.specs.Classes.{function_at}
use Rattle.evaluation.specs.Arguments.{fits}
use Rattle.machine_call.proofs.Pushed.{comes_to, function_missing}
use Rattle.machine_call.proofs.callables.function_call.Goals as goal

pub returns-clause-meaning : goal.returns-clause-meaning
returns-clause-meaning c =
    let h : fits (function_at (setting_of c.args.a).program c.args.f) (given_of c.args.passed c.args.run.now.operands.items) ≡ false = cc in
    comes_to c.args.a c.missing_from.new.run c.missing_from.result _ _ (function_missing c.args.a c.args.run.now c.args.at c.args.passed.count c.args.value c.args.f (callee_of c.args.callee) (given_of c.args.passed c.args.run.now.operands.items) c.class_of-class.result c.class_of-class.ensures h) c.missing_from.ensures.meaning
