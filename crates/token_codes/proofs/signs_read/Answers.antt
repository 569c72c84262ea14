use Rattle.token_codes.proofs.Leaves.{sign_reads}
use Rattle.token_codes.proofs.signs_read.Goals as goal

pub returns : goal.returns
returns c = sign_reads
