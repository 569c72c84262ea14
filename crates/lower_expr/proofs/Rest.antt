-- What is left of lists while they are walked over.
use Rattle.std.proofs.Common.{List, ◌++◌, Option, Some, None}
use Rattle.std.proofs.lemmas.List.{map-append, length-map, take-map}
use Rattle.dart_base.specs.declared.place.Place.{Place}
use Rattle.dart_tree.specs.Tree as t
use Rattle.translation.specs.Surroundings.{Core}
use Rattle.translation.specs.Productions as low
use Rattle.translation.specs.Walk as w

-- forms before those of a walk
abbrev pub behind_forms : List Core → w.Went (List Core) → w.Went (List Core)
behind_forms before walk = w.on walk (λ more st. w.went (before ++ more) st)

-- the rest of a row behind `super`
abbrev pub rest_of : Place → Option Core → t.Tails → w.Walk Core
rest_of word None tails st = low.super_tails word tails st
rest_of word (Some form) tails st = low.tails word form tails st

pub ruleset steps = (map-append, length-map, take-map)
