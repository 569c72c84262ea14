use Rattle.laws_table.proofs.Laws.{large_of_a_shape, no_large_of_a_shape}
use Rattle.laws_table.proofs.shape.units_have_large_types_of_a_shape.Goals as goal

pub returns-clause-one : goal.returns-clause-one
returns-clause-one c = λ given other units others texts place at distinct same. large_of_a_shape given other units others texts distinct same place at

pub returns-clause-no_table : goal.returns-clause-no_table
returns-clause-no_table c = λ given other units others texts k place distinct same. no_large_of_a_shape given other units others texts distinct same k place
