-- Lists that grow or shrink, and what is left of lists while they are walked over.
use Rattle.std.proofs.Common.{List, ◌++◌}
use Rattle.std.proofs.lemmas.List.{map-append, length-map, take-map}
use Rattle.translation.specs.Surroundings.{Core}
use Rattle.translation.specs.Walk as w

-- forms before those of a walk
abbrev pub behind_forms : List Core → w.Went (List Core) → w.Went (List Core)
behind_forms before walk = w.on walk (λ more st. w.went (before ++ more) st)

pub ruleset steps = (map-append, length-map, take-map)
