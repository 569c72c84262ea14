use Rattle.std.proofs.Common.{◌∙◌, ap}
use Rattle.dart_ir.specs.Ty.{tys}
use Rattle.class_table.proofs.Rowed.{parameters_more}
use Rattle.class_table.proofs.row.parameters.Goals as goal

pub loop-i-preserved : goal.loop-i-preserved
loop-i-preserved c = ap tys c.in_ok-push.ensures.items ∙ parameters_more c.loop-i.arguments.items c.loop-i.i c.loop-i.invariant
