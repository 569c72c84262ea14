use Rattle.laws_table.proofs.Laws.{fault_of_a_shape, no_fault_of_a_shape}
use Rattle.laws_table.proofs.shape.units_have_faults_of_a_shape.Goals as goal

pub returns-clause-one : goal.returns-clause-one
returns-clause-one c = λ given other units others texts f g distinct same. fault_of_a_shape given other units others texts distinct same f g

pub returns-clause-no_table : goal.returns-clause-no_table
returns-clause-no_table c = λ given other units others texts k f distinct same. no_fault_of_a_shape given other units others texts distinct same k f
