use Rattle.laws_table.proofs.Declared.{are_listed}
use Rattle.laws_table.proofs.Shapes.{shape_one}
use Rattle.laws_table.proofs.shape.tables_are_of_a_shape.Goals as goal

pub returns : goal.returns
returns c = λ p q k l same object function a b. shape_one p q same k l a b (are_listed p a.headers a.graph a.no_fault object function)
