use Rattle.std.proofs.Common.{◌≤◌, ap, subst, arith}
use Rattle.core_program.specs.ProgramView as p
use Rattle.machine_lookup.specs.Found.{reading}
use Rattle.machine_lookup.specs.Shapes.{a_native}
use Rattle.machine_frame.specs.Frames.{seen, mute}
use Rattle.machine_loop.specs.Operator.{IsReading}
use Rattle.machine_loop.proofs.Got.{native_got}
use Rattle.machine_loop.proofs.operators.got.Goals as goal

pub returns-in-Some-clause-value : goal.returns-in-Some-clause-value
returns-in-Some-clause-value c = λ at.
    let a = c.args.a in
    let r = c.args.run.now in
    let st = record (seen r) { left = c.args.left } in
    let enough : 2 ≤ c.args.left = omega (arith, c.if-left-lt2.false) in
    let is : IsReading (p.program a.program.now) c.class_of-class.result c.args.name (a_native c.in-Some-Native.id) = subst (λ x. IsReading (p.program a.program.now) c.class_of-class.result c.args.name (reading x)) c.in-Some-Native.field-0-is c.in-Some-Native.ensures in
    ap mute (native_got a r.depth c.args.name c.class_of-class.result c.args.this c.in-Some.value c.in-Some-Native.id st c.if-run-eq0.false enough c.class_of-class.ensures is c.in-Some.ensures at)
