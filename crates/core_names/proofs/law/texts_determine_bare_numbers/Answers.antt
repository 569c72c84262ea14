use Rattle.core_names.proofs.Bare.{same_bare}
use Rattle.core_names.proofs.law.texts_determine_bare_numbers.Goals as goal

pub returns : goal.returns
returns c = λ texts q r distinct. same_bare texts distinct q r
