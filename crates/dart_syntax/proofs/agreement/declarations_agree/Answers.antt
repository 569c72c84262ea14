use Rattle.dart_syntax.proofs.AgreeingDeclarations as declarations
use Rattle.dart_syntax.proofs.agreement.declarations_agree.Goals as goal

pub returns : goal.returns
returns c = declarations.declarations_agree
