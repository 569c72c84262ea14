use Rattle.laws_table.proofs.Laws as laws
use Rattle.laws_table.proofs.law.one_place.Goals as goal

pub returns : goal.returns
returns c = λ given units texts place other distinct. laws.one_place given units texts distinct place other
