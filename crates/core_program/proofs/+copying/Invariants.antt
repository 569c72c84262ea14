use Rattle.std.proofs.Common.{◌≡◌, map, take}
use Rattle.core_program.specs.View as v
use Rattle.core_program.proofs.+copying.Given as goal

abbrev pub invariant-copy::try_clone_cores-loop-one : goal.invariant-copy::try_clone_cores-loop-one
invariant-copy::try_clone_cores-loop-one l = map v.core l.copies.items ≡ map v.core (take l.one-index l.cores)

abbrev pub invariant-copy::try_clone_handlers-loop-one : goal.invariant-copy::try_clone_handlers-loop-one
invariant-copy::try_clone_handlers-loop-one l = map v.handler l.copies.items ≡ map v.handler (take l.one-index l.handlers)

abbrev pub invariant-copy::try_clone_cases-loop-one : goal.invariant-copy::try_clone_cases-loop-one
invariant-copy::try_clone_cases-loop-one l = map v.case l.copies.items ≡ map v.case (take l.one-index l.cases)
