-- Lists of what is seen.
use Rattle.std.proofs.lemmas.List.{map-append, length-map, take-map}
use Rattle.std.proofs.lemmas.Grind.{replicate_next}
use Rattle.std.proofs.Common.{append_assoc}

-- a state with one thing more, or without what was declared in a scope
pub ruleset steps = (map-append, length-map, take-map)

-- lists of a row of dynamic types, and of types with one more
pub ruleset type_steps = (map-append, replicate_next, append_assoc)
