use Rattle.std.proofs.Common.{◌≡◌, map, take}
use Rattle.core_program.specs.ProgramView as v
use Rattle.core_program.specs.Alike as alike
use Rattle.core_image.proofs.program.image_of_sites.Given as goal

abbrev pub invariant-loop-one : goal.invariant-loop-one
invariant-loop-one l = map v.site l.made.items ≡ map alike.site (map v.site (take l.one-index l.sites))
