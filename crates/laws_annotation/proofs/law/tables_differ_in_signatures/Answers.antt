use Rattle.laws_annotation.proofs.Tabled.{tables_differ}
use Rattle.laws_annotation.proofs.law.tables_differ_in_signatures.Goals as goal

pub returns : goal.returns
returns c = tables_differ
