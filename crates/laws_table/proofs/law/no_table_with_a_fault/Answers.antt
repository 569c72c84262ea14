use Rattle.laws_table.proofs.Laws as laws
use Rattle.laws_table.proofs.law.no_table_with_a_fault.Goals as goal

pub returns : goal.returns
returns c = λ given units texts k f distinct. laws.no_table_with_a_fault given units texts distinct k f
