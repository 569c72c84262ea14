use Rattle.class_fault.proofs.Found.{not_led}
use Rattle.class_fault.proofs.fault.Scan.leads_back.Goals as goal

pub returns-then-not-self : goal.returns-then-not-self
returns-then-not-self c = not_led c.args.self.now.headers.now c.args.class c.args.e (c.requires.scan.cyclic c.if-not-self.true) c.requires.named
