use Rattle.laws_table.proofs.Laws as laws
use Rattle.laws_table.proofs.law.one_table.Goals as goal

pub returns : goal.returns
returns c = λ given units texts k l distinct. laws.one_table given units texts distinct k l
