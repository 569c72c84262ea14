use Rattle.std.proofs.Common.{ap, ◌∙◌, ◌/◌}
use Rattle.class_lookup.proofs.Trees.{rest_more, rest_eight}
use Rattle.class_lookup.proofs.index.digits.Goals as goal

pub loop-n-preserved : goal.loop-n-preserved
loop-n-preserved c = rest_more c.loop-n.n c.args.name ∙ ap (λ x. x / 16) c.loop-n.invariant

pub returns : goal.returns
returns c = rest_eight c.args.name c.ranges.name.fits
