use Rattle.std.proofs.Common.{sym}
use Rattle.laws_table.proofs.Sizes.{refused_like}
use Rattle.laws_table.proofs.alike.faults_are_of_what_is_seen.Goals as goal

pub returns : goal.returns
returns c = λ p q f same. refused_like q p (sym same) f
