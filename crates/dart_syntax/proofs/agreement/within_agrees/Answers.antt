use Rattle.dart_syntax.proofs.AgreeingStages as stages
use Rattle.dart_syntax.proofs.agreement.within_agrees.Goals as goal

pub returns : goal.returns
returns c = stages.within_agrees
