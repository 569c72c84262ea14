use Rattle.laws_annotation.proofs.Loads.{after_goes}
use Rattle.laws_annotation.proofs.law.loading_goes_on_alike.Goals as goal

pub returns : goal.returns
returns c = after_goes
