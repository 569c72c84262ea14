use Rattle.std.proofs.Common.{subst}
use Rattle.dart_tool.specs.declared.language.Stop.{Stop}
use Rattle.dart_tool.specs.Language.{IsNoUnitFor, Stops}
use Rattle.dart_tool.proofs.Outcomes.{erase_refused}
use Rattle.dart_tool.proofs.outcome.erase_outcome.Goals as goal

pub returns-in-Err-Refused-clause-gives : goal.returns-in-Err-Refused-clause-gives
returns-in-Err-Refused-clause-gives c =
    let text = c.args.text.now in
    let why : IsNoUnitFor text c.in-Err-Refused.reason = subst (λ (stop : Stop). Stops (IsNoUnitFor text) stop) c.in-Err-Refused.field-0-is c.in-Err-Refused.ensures.stops in
    erase_refused c.args.name.now text c.in-Err-Refused.reason why c.refused.result c.refused.ensures
