use Rattle.laws_block.proofs.Depths.{compounds_at}
use Rattle.laws_block.proofs.compounds_read.Goals as goal

pub returns : goal.returns
returns c = compounds_at
