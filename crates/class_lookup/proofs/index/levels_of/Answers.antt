use Rattle.std.proofs.Common.{arith}
use Rattle.std.proofs.lemmas.Option.{slice_get_within}
use Rattle.class_lookup.proofs.Names.{names_more}
use Rattle.class_lookup.proofs.index.levels_of.Goals as goal

pub loop-info-preserved : goal.loop-info-preserved
loop-info-preserved c = names_more c.args.members.now c.loop-info.info-index c.loop-info.levels c.digits.result c.info-item.result c.info-item.is c.loop-info-test.true c.digits.ensures c.max-levels.result c.max-levels.ensures c.loop-info.invariant

pub returns : goal.returns
returns c = λ j m q. c.loop-info.invariant j m (let l = slice_get_within c.args.members.now j m q in omega (arith, l, c.loop-info-test.false)) q
