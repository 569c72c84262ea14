use Rattle.laws_annotation.proofs.Given.{lines_same}
use Rattle.laws_annotation.proofs.law.translated_programs_differ_in_annotations.Goals as goal

pub returns : goal.returns
returns c = lines_same
