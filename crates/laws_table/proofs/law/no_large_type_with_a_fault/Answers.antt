use Rattle.laws_table.proofs.Laws as laws
use Rattle.laws_table.proofs.law.no_large_type_with_a_fault.Goals as goal

pub returns : goal.returns
returns c = λ given units texts f place distinct. laws.no_large_type_with_a_fault given units texts distinct f place
