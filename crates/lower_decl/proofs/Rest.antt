-- Lists that grow or shrink.
use Rattle.std.proofs.lemmas.List.{map-append, length-map, take-map}

pub ruleset steps = (map-append, length-map, take-map)
