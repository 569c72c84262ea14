use Rattle.laws_table.proofs.Laws as laws
use Rattle.laws_table.proofs.law.no_table_with_a_large_type.Goals as goal

pub returns : goal.returns
returns c = λ given units texts k place distinct. laws.no_table_with_a_large_type given units texts distinct k place
