use Rattle.laws_table.proofs.More.{table_longer}
use Rattle.laws_table.proofs.law.tables_stay_under_more_names.Goals as goal

pub returns : goal.returns
returns c = λ given units texts more. table_longer texts more given units
