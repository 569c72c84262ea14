use Rattle.laws_annotation.proofs.Reached.{loaded}
use Rattle.laws_annotation.proofs.law.erased_programs_are_loaded.Goals as goal

pub returns : goal.returns
returns c = loaded
