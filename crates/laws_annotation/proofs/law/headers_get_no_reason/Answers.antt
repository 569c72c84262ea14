use Rattle.laws_annotation.proofs.Tabled.{no_fault, no_large_type}
use Rattle.laws_annotation.proofs.law.headers_get_no_reason.Goals as goal

pub returns-clause-fault : goal.returns-clause-fault
returns-clause-fault c = λ s state built f distinct. no_fault s state built distinct f

pub returns-clause-large : goal.returns-clause-large
returns-clause-large c = λ s state built place distinct. no_large_type s state built distinct place
