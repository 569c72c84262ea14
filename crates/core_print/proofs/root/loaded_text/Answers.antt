use Rattle.std.proofs.Common.{subst}
use Rattle.scope_load.specs.State.{state_of}
use Rattle.core_print.specs.Core.{MakesCore}
use Rattle.core_print.proofs.root.loaded_text.Goals as goal

pub returns-in-None : goal.returns-in-None
returns-in-None c = subst (MakesCore (state_of c.args.loaded.now)) c.in-None.is c.in_ok-core_of.ensures

pub returns-in_ok-bytes-in-Some : goal.returns-in_ok-bytes-in-Some
returns-in_ok-bytes-in-Some c = (
  c.in-Some.core,
  c.choice_of-choice.result,
  subst (MakesCore (state_of c.args.loaded.now)) c.in-Some.is c.in_ok-core_of.ensures,
  c.choice_of-choice.ensures,
  c.in_ok-bytes-in-Some.ensures,
)
