use Rattle.std.proofs.Common.{arith}
use Rattle.class_order.proofs.Steps.{finished_at, finish_left, finish_touched}
use Rattle.class_order.proofs.walk.finish.Goals as goal

pub returns-clause-walk : goal.returns-clause-walk
returns-clause-walk c =
    finished_at c.args.headers.now c.args.walk.now.marks.items c.args.walk.now.order.items c.args.walk.now.stack.items c.args.frame c.requires.walk c.requires.listed c.requires.all c.len.result c.push.new.self.items (omega (arith, c.len.ensures)) c.in_ok-push.ensures.items

pub returns-clause-left : goal.returns-clause-left
returns-clause-left c = finish_left c.args.headers.now c.args.walk.now.marks.items c.args.walk.now.order.items c.args.walk.now.stack.items c.args.frame c.requires.walk c.len.result

pub returns-clause-touched : goal.returns-clause-touched
returns-clause-touched c = finish_touched c.args.headers.now c.args.walk.now.marks.items c.args.walk.now.order.items c.args.walk.now.stack.items c.args.frame c.requires.walk c.len.result
