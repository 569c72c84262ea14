use Rattle.laws_annotation.proofs.Rows.{classes_same}
use Rattle.laws_annotation.proofs.law.class_rows_are_kept.Goals as goal

pub returns : goal.returns
returns c = classes_same
