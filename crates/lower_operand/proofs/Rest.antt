-- Lists that grow while they are walked over.
use Rattle.std.proofs.lemmas.List.{map-append, length-map, take-map}

pub ruleset steps = (map-append, length-map, take-map)
