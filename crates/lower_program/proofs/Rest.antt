-- Lists that grow.
use Rattle.std.proofs.lemmas.List.{map-append, length-map, take-map}

pub ruleset steps = (map-append, length-map, take-map)
