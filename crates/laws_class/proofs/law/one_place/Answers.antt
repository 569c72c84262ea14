use Rattle.class_table.proofs.Listed.{are_listed}
use Rattle.laws_class.proofs.Sizes.{place_one}
use Rattle.laws_class.proofs.law.one_place.Goals as goal

pub returns : goal.returns
returns c = λ p k l f g program a b. place_one p k l f g a b (are_listed p a.table.headers program a.table.graph)
