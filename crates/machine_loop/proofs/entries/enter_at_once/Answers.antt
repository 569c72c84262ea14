use Rattle.std.proofs.Common.{ap, arith}
use Rattle.machine_frame.specs.Frames.{load}
use Rattle.machine_loop.proofs.Partly.{of_none, of_some, done_does, left_does, block_does}
use Rattle.machine_loop.proofs.Turned.{comes_to}
use Rattle.machine_loop.proofs.entries.enter_at_once.Goals as goal

pub returns-else-run-eq0-clause-meaning : goal.returns-else-run-eq0-clause-meaning
returns-else-run-eq0-clause-meaning c =
    comes_to c.args.a c.go_on.new.run c.go_on.result _ _
    (block_does c.args.a c.args.core.now c.args.run.now c.in-Block.forms c.as_slice.result.now c.if-run-eq0.false c.in-Block.is c.as_slice.ensures.value) c.go_on.ensures.meaning

pub returns-in-Ok-None : goal.returns-in-Ok-None
returns-in-Ok-None c =
    let d = of_none _ c.in-Ok-None.field-0 c.in-Ok-None.field-0-is c.in-Ok-None.ensures in
    record {
      meaning = done_does c.args.a c.args.core.now c.args.run.now c.simple.new.run d;
      less = omega (arith, d.less, ap load d.frames);
    }

pub returns-in-Ok-Some : goal.returns-in-Ok-Some
returns-in-Ok-Some c =
    let d = of_some _ _ c.in-Ok-Some.field-0 c.in-Ok-Some.more c.in-Ok-Some.field-0-is c.in-Ok-Some.ensures in
    record {
      meaning = left_does c.args.a c.args.core.now c.in-Ok-Some.more c.args.run.now c.simple.new.run d;
      less = omega (arith, d.less, ap load d.frames);
    }
