use Rattle.std.proofs.Common.{◌≡◌, map, take}
use Rattle.core_program.specs.View as v
use Rattle.core_program.specs.Alike as alike
use Rattle.core_image.proofs.form.+imaging.Given as goal

abbrev pub invariant-image_of_cores-loop-one : goal.invariant-image_of_cores-loop-one
invariant-image_of_cores-loop-one l = map v.core l.made.items ≡ map alike.core (map v.core (take l.one-index l.cores))

abbrev pub invariant-image_of_handlers-loop-one : goal.invariant-image_of_handlers-loop-one
invariant-image_of_handlers-loop-one l = map v.handler l.made.items ≡ map alike.handler (map v.handler (take l.one-index l.handlers))

abbrev pub invariant-image_of_cases-loop-one : goal.invariant-image_of_cases-loop-one
invariant-image_of_cases-loop-one l = map v.case l.made.items ≡ map alike.case (map v.case (take l.one-index l.cases))
