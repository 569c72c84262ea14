use Rattle.std.proofs.Common.{arith}
use Rattle.class_order.proofs.Steps.{read_within, read_is, read_listed, read_marked, read_done, read_cycle}
use Rattle.class_order.proofs.walk.step.Goals as goal

pub index-requires : goal.index-requires
index-requires c =
    let l = read_marked c.args.headers.now c.args.walk.now.marks.items c.args.walk.now.order.items c.args.walk.now.stack.items c.args.frame c.requires.walk c.index-headers-frame.result c.index-class.result.now c.requires.listed c.index-headers-frame.is (omega (arith, c.if-frame-len.false, c.len.ensures)) c.index-class.ensures in
    omega (arith, l, c.args.walk.now.marks.ok.0)

pub advance-requires-clause-within : goal.advance-requires-clause-within
advance-requires-clause-within c = read_within c.args.headers.now c.args.walk.now.marks.items c.args.walk.now.order.items c.args.walk.now.stack.items c.args.frame c.requires.walk c.index-headers-frame.result c.index-class.result.now c.requires.listed c.index-headers-frame.is (omega (arith, c.if-frame-len.false, c.len.ensures)) c.index-class.ensures

pub advance-requires-clause-done : goal.advance-requires-clause-done
advance-requires-clause-done c = read_done c.args.headers.now c.args.walk.now.marks.items c.args.walk.now.order.items c.args.walk.now.stack.items c.args.frame c.requires.walk c.index-headers-frame.result c.index-class.result.now c.requires.listed c.index-headers-frame.is (omega (arith, c.if-frame-len.false, c.len.ensures)) c.index-class.ensures c.index.result.now c.in-Done.field-0 c.index.ensures c.in-Done.is

pub begin-requires-clause-within : goal.begin-requires-clause-within
begin-requires-clause-within c = read_within c.args.headers.now c.args.walk.now.marks.items c.args.walk.now.order.items c.args.walk.now.stack.items c.args.frame c.requires.walk c.index-headers-frame.result c.index-class.result.now c.requires.listed c.index-headers-frame.is (omega (arith, c.if-frame-len.false, c.len.ensures)) c.index-class.ensures

pub begin-requires-clause-is : goal.begin-requires-clause-is
begin-requires-clause-is c = read_is c.args.headers.now c.args.walk.now.marks.items c.args.walk.now.order.items c.args.walk.now.stack.items c.args.frame c.requires.walk c.index-headers-frame.result c.index-class.result.now c.requires.listed c.index-headers-frame.is (omega (arith, c.if-frame-len.false, c.len.ensures)) c.index-class.ensures

pub begin-requires-clause-listed : goal.begin-requires-clause-listed
begin-requires-clause-listed c = read_listed c.args.headers.now c.args.walk.now.marks.items c.args.walk.now.order.items c.args.walk.now.stack.items c.args.frame c.requires.walk c.index-headers-frame.result c.index-class.result.now c.requires.listed c.index-headers-frame.is (omega (arith, c.if-frame-len.false, c.len.ensures)) c.index-class.ensures

pub returns-in-Open-clause-cyclic : goal.returns-in-Open-clause-cyclic
returns-in-Open-clause-cyclic c _ = read_cycle c.args.headers.now c.args.walk.now.marks.items c.args.walk.now.order.items c.args.walk.now.stack.items c.args.frame c.requires.walk c.index-headers-frame.result c.index-class.result.now c.requires.listed c.index-headers-frame.is (omega (arith, c.if-frame-len.false, c.len.ensures)) c.index-class.ensures c.index.result.now c.in-Open.field-0 c.index.ensures c.in-Open.is
