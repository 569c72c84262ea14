use Rattle.core_names.proofs.Found.{same_numbers}
use Rattle.core_names.proofs.law.texts_determine_numbers.Goals as goal

pub returns : goal.returns
returns c = λ texts q r distinct. same_numbers texts distinct q r
