use Rattle.std.proofs.Common.{None, arith}
use Rattle.class_fault.specs.Fault.{past}
use Rattle.class_fault.proofs.Found.{from_here, from_later}
use Rattle.class_fault.proofs.fault.Scan.first_fault.Goals as goal

pub returns-in-Some : goal.returns-in-Some
returns-in-Some c = from_here c.args.self.now.program.now c.args.self.now.headers.now c.loop-class.class c.loop-class.invariant (omega (arith, c.loop-class-test.true, c.len-class-end.ensures, c.args.self.now.program.now.declarations.ok.0)) c.in_ok-fault.field-0 c.in_ok-fault.ensures c.in-Some.fault c.in-Some.is

pub loop-class-preserved : goal.loop-class-preserved
loop-class-preserved c = from_later c.args.self.now.program.now c.args.self.now.headers.now c.loop-class.class c.loop-class.invariant (omega (arith, c.loop-class-test.true, c.len-class-end.ensures, c.args.self.now.program.now.declarations.ok.0)) c.in_ok-fault.field-0 c.in_ok-fault.ensures c.in_default.is

pub returns : goal.returns
returns c = c.loop-class.invariant None (past c.loop-class.class (omega (arith, c.loop-class-test.false, c.len-class-end.ensures, c.args.self.now.program.now.declarations.ok.0)))
