use Rattle.class_within.proofs.Told.{same_program}
use Rattle.class_within.proofs.law.sources_determine_programs.Goals as goal

pub returns : goal.returns
returns c = λ given units texts p q distinct. same_program texts distinct given units p q
