use Rattle.class_fault.proofs.Found.{no_superclass_fault, sound_superclass, bad_superclass}
use Rattle.class_fault.proofs.fault.Scan.superclass_fault.Goals as goal

pub returns-in-None : goal.returns-in-None
returns-in-None c = no_superclass_fault c.args.self.now.program.now c.args.self.now.headers.now c.args.class c.args.superclass.now c.in-None.is

pub returns-in-None-2 : goal.returns-in-None-2
returns-in-None-2 c = sound_superclass c.args.self.now.program.now c.args.self.now.headers.now c.args.class c.args.superclass.now c.in-Some.t c.in_ok-verdict-in-Some.field-0 c.in-Some.is c.in_ok-verdict-in-Some.ensures c.in-None-2.is

pub returns-in-Some-2 : goal.returns-in-Some-2
returns-in-Some-2 c = bad_superclass c.args.self.now.program.now c.args.self.now.headers.now c.args.class c.args.superclass.now c.in-Some.t c.in_ok-verdict-in-Some.field-0 c.in-Some-2.reason c.in-Some.is c.in_ok-verdict-in-Some.ensures c.in-Some-2.is
