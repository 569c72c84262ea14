-- What a loaded program makes, whether or not it has a core.
use Rattle.std.proofs.Common.{Option, None, Some, inr}
use Rattle.core_program.specs.declared.program.CoreProgram.{CoreProgram}
use Rattle.scope_load.specs.State.{State}
use Rattle.scope_program.specs.Program.{Scoping}
use Rattle.core_print.specs.Core.{IsTranslatedTo, MakesIn}

pub made_in : (state : State) (s : Scoping) (found : Option CoreProgram) → IsTranslatedTo state s found → MakesIn state s found
made_in state s None is = inr is
made_in state s (Some x) is = is
