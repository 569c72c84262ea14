use Rattle.std.proofs.Common.{sym}
use Rattle.laws_table.proofs.Sizes.{refused_shape}
use Rattle.laws_table.proofs.shape.faults_are_of_a_shape.Goals as goal

pub returns : goal.returns
returns c = λ p q f same. refused_shape q p (sym same) f
