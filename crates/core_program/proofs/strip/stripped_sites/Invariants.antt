use Rattle.std.proofs.Common.{◌≡◌, map, take}
use Rattle.core_program.specs.ProgramView as v
use Rattle.core_program.specs.Stripped as stripped
use Rattle.core_program.proofs.strip.stripped_sites.Given as goal

abbrev pub invariant-loop-one : goal.invariant-loop-one
invariant-loop-one l = map v.site l.made.items ≡ map stripped.site (map v.site (take l.one-index l.sites))
