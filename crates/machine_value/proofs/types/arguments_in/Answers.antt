use Rattle.machine_value.proofs.Supertypes.{arguments_some}
use Rattle.machine_value.proofs.types.arguments_in.Goals as goal

pub returns-in_ok-try_clone_types-in-Some : goal.returns-in_ok-try_clone_types-in-Some
returns-in_ok-try_clone_types-in-Some c = rw (c.in-Some.ensures, arguments_some) (cc c.in_ok-try_clone_types-in-Some.ensures)
