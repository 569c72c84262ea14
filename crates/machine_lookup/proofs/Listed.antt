-- What a list of seen things has.
use Rattle.std.proofs.lemmas.Option.{slice_get-map, slice_get-get_or, slice_get_past}

pub ruleset listed = (slice_get-map, slice_get-get_or, slice_get_past)
