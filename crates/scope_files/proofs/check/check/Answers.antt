use Rattle.std.proofs.Common.{◌≡◌, sym, subst, List, ℕ, Option, Result, Ok, Err, IfOk}
use Rattle.std.specs.Prelude.{IfErr}
use Rattle.dart_edge.specs.Files.{Files}
use Rattle.scope_load.specs.declared.reason.LoadFault.{LoadFault}
use Rattle.scope_load.specs.declared.reason.LoadFault.TheVariants.{Memory}
use Rattle.scope_load.specs.Load.{Loads, Stops}
use Rattle.scope_load.specs.State.{State, state_of}
use Rattle.scope_files.specs.declared.check.Checked.{Checked}
use Rattle.scope_files.specs.Files.{Checks, Found, NameGives}
use Rattle.scope_files.proofs.check.check.Goals as goal

loaded_checks : (told : Option Files) (root : List ℕ) (state : State) (result : Result Checked LoadFault) → Loads (NameGives told) root state → IfOk result (λ checked. Found state checked) → IfErr result (λ fault. fault ≡ Memory) → Checks told root result
loaded_checks told root state (Ok checked) loads is fault = (state, loads, is)
loaded_checks told root state (Err fault) loads is memory = subst (λ (f : LoadFault). Stops (NameGives told) root f) (sym memory) tt

pub returns-in-Ok-clause-answer : goal.returns-in-Ok-clause-answer
returns-in-Ok-clause-answer g c =
    loaded_checks _ _ (state_of c.in-Ok.loaded) c.check_whole.result c.in-Ok.ensures.answer c.check_whole.ensures.found c.check_whole.ensures.fault

pub returns-in-Ok-clause-cause : goal.returns-in-Ok-clause-cause
returns-in-Ok-clause-cause g c = rw c.check_whole.ensures.failed c.in-Ok.ensures.cause
