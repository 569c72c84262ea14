use Rattle.std.proofs.Common.{arith}
use Rattle.std.proofs.lemmas.Option.{slice_get_within}
use Rattle.class_size.proofs.Bounded.{types_more}
use Rattle.class_size.proofs.bound.types_bound.Goals as goal

pub loop-t-preserved : goal.loop-t-preserved
loop-t-preserved c = λ k h. types_more k c.args.types.now c.loop-t.t-index c.type_bound.result c.loop-t.bound c.max-bound.result c.t-item.result c.t-item.is c.loop-t-test.true c.max-bound.ensures (c.type_bound.ensures k h) (c.loop-t.invariant k h)

pub returns : goal.returns
returns c = λ k h j u q. c.loop-t.invariant k h j u (let l = slice_get_within c.args.types.now j u q in omega (arith, l, c.loop-t-test.false)) q
