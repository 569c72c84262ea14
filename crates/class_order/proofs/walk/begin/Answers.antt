use Rattle.std.proofs.Common.{arith}
use Rattle.class_order.proofs.Steps.{begun_at, begin_left_at}
use Rattle.class_order.proofs.walk.begin.Goals as goal

pub returns-clause-walk : goal.returns-clause-walk
returns-clause-walk c =
    begun_at c.args.headers.now c.args.walk.now.marks.items c.args.walk.now.order.items c.args.walk.now.stack.items c.args.frame c.requires.walk c.args.class c.requires.is c.requires.within c.requires.listed c.requires.new c.push.new.self.items c.push-2.new.self.items c.len.result c.in_ok-push.ensures.items (omega (arith, c.len.ensures)) c.in_ok-push-2.ensures.items

pub returns-clause-left : goal.returns-clause-left
returns-clause-left c =
    begin_left_at c.args.headers.now c.args.walk.now.marks.items c.args.walk.now.order.items c.args.walk.now.stack.items c.args.frame c.requires.walk c.args.class c.requires.is c.requires.within c.requires.listed c.requires.new c.push.new.self.items c.push-2.new.self.items c.len.result c.in_ok-push.ensures.items (omega (arith, c.len.ensures)) c.in_ok-push-2.ensures.items
