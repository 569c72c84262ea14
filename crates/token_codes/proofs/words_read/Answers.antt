use Rattle.token_codes.proofs.Leaves.{word_reads}
use Rattle.token_codes.proofs.words_read.Goals as goal

pub returns : goal.returns
returns c = word_reads
