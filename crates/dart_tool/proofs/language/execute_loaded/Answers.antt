use Rattle.std.proofs.Common.{subst}
use Rattle.scope_load.specs.State.{state_of}
use Rattle.dart_execute.specs.Execution.{ExecutesAs}
use Rattle.dart_tool.proofs.language.execute_loaded.Goals as goal

pub returns-in-Ok-Ran-clause-answer : goal.returns-in-Ok-Ran-clause-answer
returns-in-Ok-Ran-clause-answer c =
    subst (ExecutesAs (state_of c.args.loaded.now) c.args.options) c.in-Ok-Ran.field-0-is c.in-Ok-Ran.ensures

pub returns-in-Ok-NotBuilt-clause-answer : goal.returns-in-Ok-NotBuilt-clause-answer
returns-in-Ok-NotBuilt-clause-answer c =
    subst (ExecutesAs (state_of c.args.loaded.now) c.args.options) c.in-Ok-NotBuilt.field-0-is c.in-Ok-NotBuilt.ensures

pub returns-in-Ok-clause-answer : goal.returns-in-Ok-clause-answer
returns-in-Ok-clause-answer c = (
  c.in-Ok-Refused.place,
  c.in-Ok-Refused.cause,
  subst (ExecutesAs (state_of c.args.loaded.now) c.args.options) c.in-Ok-Refused.field-0-is c.in-Ok-Refused.ensures,
  c.in-Ok.ensures,
)
