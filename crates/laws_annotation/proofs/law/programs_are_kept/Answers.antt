use Rattle.laws_annotation.proofs.Programs.{program_goes}
use Rattle.laws_annotation.proofs.law.programs_are_kept.Goals as goal

pub returns : goal.returns
returns c = program_goes
