use Rattle.token_codes.proofs.Leaves.{identifier_reads, dot_name_reads}
use Rattle.token_codes.proofs.names_read.Goals as goal

pub returns : goal.returns
returns c = (identifier_reads, dot_name_reads)
