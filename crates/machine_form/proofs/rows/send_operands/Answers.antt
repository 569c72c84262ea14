use Rattle.std.proofs.Common.{List, ap, ◌∙◌}
use Rattle.dart_ir.specs.declared.value.Value.{Value}
use Rattle.evaluation.specs.Invocation as call
use Rattle.evaluation.specs.State.{answer, ends}
use Rattle.machine_frame.specs.Frames.{seen, below_of, resume, mute, given_of}
use Rattle.machine_loop.proofs.Operated.{row_answered}
use Rattle.machine_form.proofs.rows.send_operands.Goals as goal

pub returns-in-Some-clause-meaning : goal.returns-in-Some-clause-meaning
returns-in-Some-clause-meaning c =
    let a = c.args.a in
    let r = c.args.run.now in
    ap (λ (l : List Value). mute (resume a (record (below_of r) { operands = l }) r.frames.items (ends (answer c.in-Some.value) (record (seen r) { left = c.in-Some.left })))) c.cut.ensures
    ∙ row_answered a r c.args.passed.count c.in-Some.left c.in-Some.value (λ w. call.send w c.args.at c.args.name c.args.this (given_of c.args.passed r.operands.items))
    (c.in-Some.ensures.value c.args.at)
