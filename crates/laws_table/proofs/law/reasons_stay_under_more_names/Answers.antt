use Rattle.laws_table.proofs.More.{fault_longer, large_longer}
use Rattle.laws_table.proofs.law.reasons_stay_under_more_names.Goals as goal

pub returns-clause-fault : goal.returns-clause-fault
returns-clause-fault c = λ given units texts more. fault_longer texts more given units

pub returns-clause-large : goal.returns-clause-large
returns-clause-large c = λ given units texts more. large_longer texts more given units
