use Rattle.laws_table.proofs.Laws.{tables_of_a_shape}
use Rattle.laws_table.proofs.shape.units_have_tables_of_a_shape.Goals as goal

pub returns : goal.returns
returns c = λ given other units others texts k l distinct same. tables_of_a_shape given other units others texts distinct same k l
