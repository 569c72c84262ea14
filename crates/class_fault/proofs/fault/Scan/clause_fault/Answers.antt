use Rattle.std.proofs.Common.{refl, length}
use Rattle.std.proofs.lemmas.Option.{slice_get_read}
use Rattle.class_fault.proofs.Found.{first_here, first_later, first_none}
use Rattle.class_fault.proofs.fault.Scan.clause_fault.Goals as goal

pub verdict-requires-clause-named : goal.verdict-requires-clause-named
verdict-requires-clause-named c = c.requires.named c.loop-t.t-index c.t-item.result (slice_get_read c.args.types.now (length c.args.types.now) c.loop-t.t-index c.t-item.result refl c.loop-t-test.true c.t-item.is)

pub returns-in-Some : goal.returns-in-Some
returns-in-Some c = first_here c.args.self.now.program.now c.args.self.now.headers.now c.args.class c.args.clause c.args.types.now c.loop-t.t-index c.t-item.result c.t-item.is c.loop-t.invariant c.in_ok-reason.field-0 c.in-Some.reason c.loop-t-test.true c.in-Some.is c.in_ok-reason.ensures

pub loop-t-preserved : goal.loop-t-preserved
loop-t-preserved c = first_later c.args.self.now.program.now c.args.self.now.headers.now c.args.class c.args.clause c.args.types.now c.loop-t.t-index c.t-item.result c.t-item.is c.loop-t.invariant c.in_ok-reason.field-0 c.loop-t-test.true c.in_default.is c.in_ok-reason.ensures

pub returns : goal.returns
returns c = first_none c.args.self.now.program.now c.args.self.now.headers.now c.args.class c.args.clause c.args.types.now c.loop-t.t-index c.loop-t.invariant c.loop-t-test.false
