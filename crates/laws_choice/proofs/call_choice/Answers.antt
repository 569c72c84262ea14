use Rattle.laws_choice.proofs.call_choice.Goals as goal
use Rattle.laws_choice.proofs.CallChoices.{call_choice_at}

pub returns : goal.returns
returns c = call_choice_at
