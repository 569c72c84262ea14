use Rattle.table_accessor.proofs.Equal.{stay_equal}
use Rattle.table_accessor.proofs.number.equal_tables_stay_equal.Goals as goal

pub returns : goal.returns
returns c = stay_equal
