use Rattle.class_table.proofs.Listed.{are_listed}
use Rattle.laws_class.proofs.Tables.{table_one}
use Rattle.laws_class.proofs.law.one_table.Goals as goal

pub returns : goal.returns
returns c = λ p k l program a b. table_one p k l a b (are_listed p a.headers program a.graph)
