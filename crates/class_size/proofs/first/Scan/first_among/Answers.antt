use Rattle.std.proofs.Common.{refl}
use Rattle.class_size.proofs.Firsts.{first_here, first_later, first_none}
use Rattle.class_size.proofs.first.Scan.first_among.Goals as goal

pub returns-then-branch : goal.returns-then-branch
returns-then-branch c = first_here c.args.self.now.sizes.classes.now c.args.self.now.numbers.now c.args.types.now c.loop-t.t-index c.t-item.result c.t-item.is c.loop-t-test.true c.loop-t.invariant c.in_ok-is_too_large.field-0 _ c.in_ok-numbered.ensures c.in_ok-is_too_large.ensures c.if-branch.true

pub loop-t-preserved : goal.loop-t-preserved
loop-t-preserved c = first_later c.args.self.now.sizes.classes.now c.args.self.now.numbers.now c.args.types.now c.loop-t.t-index c.t-item.result c.t-item.is c.loop-t-test.true c.loop-t.invariant c.in_ok-is_too_large.field-0 _ c.in_ok-numbered.ensures c.in_ok-is_too_large.ensures c.if-branch.false

pub returns : goal.returns
returns c = first_none c.args.self.now.sizes.classes.now c.args.self.now.numbers.now c.args.types.now c.loop-t.t-index c.loop-t.invariant c.loop-t-test.false
