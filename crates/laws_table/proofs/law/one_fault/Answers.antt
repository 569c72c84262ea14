use Rattle.laws_table.proofs.Laws as laws
use Rattle.laws_table.proofs.law.one_fault.Goals as goal

pub returns : goal.returns
returns c = λ given units texts f g distinct. laws.one_fault given units texts distinct f g
