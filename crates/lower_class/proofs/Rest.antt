-- Lists that grow or shrink.
use Rattle.std.proofs.lemmas.List.{map-append, length-map, take-map}
use Rattle.std.proofs.lemmas.List.FromFn.{map-range_with_len_more}

pub ruleset steps = (map-append, length-map, take-map)

pub ruleset ranges = (map-append, map-range_with_len_more)
