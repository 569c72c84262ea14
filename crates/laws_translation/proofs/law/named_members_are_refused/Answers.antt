use Rattle.laws_translation.proofs.Whole.{named_refused}
use Rattle.laws_translation.proofs.law.named_members_are_refused.Goals as goal

pub returns : goal.returns
returns c = named_refused
