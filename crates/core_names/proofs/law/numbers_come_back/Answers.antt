use Rattle.core_names.proofs.Found.{numbers_back}
use Rattle.core_names.proofs.law.numbers_come_back.Goals as goal

pub returns : goal.returns
returns c = λ texts q distinct. numbers_back texts distinct q
