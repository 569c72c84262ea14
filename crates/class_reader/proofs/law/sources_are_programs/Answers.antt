use Rattle.class_reader.proofs.Programs.{is_program}
use Rattle.class_reader.proofs.law.sources_are_programs.Goals as goal

pub returns : goal.returns
returns c = is_program
