use Rattle.std.proofs.Common.{sym}
use Rattle.laws_table.proofs.Sizes.{built_like}
use Rattle.laws_table.proofs.alike.tables_are_of_what_is_seen.Goals as goal

pub returns : goal.returns
returns c = λ p q k same. built_like q p (sym same) k
