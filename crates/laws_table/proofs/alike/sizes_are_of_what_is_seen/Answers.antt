use Rattle.std.proofs.Common.{sym}
use Rattle.laws_table.proofs.Sizes.{sized_like}
use Rattle.laws_table.proofs.alike.sizes_are_of_what_is_seen.Goals as goal

pub returns : goal.returns
returns c = λ p q k found same. sized_like q p (sym same) k found
