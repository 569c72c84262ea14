use Rattle.laws_choice.proofs.metadata_grows.Goals as goal
use Rattle.laws_choice.proofs.MetadataGrow.{metadata_grow_at}

pub returns : goal.returns
returns c = metadata_grow_at
