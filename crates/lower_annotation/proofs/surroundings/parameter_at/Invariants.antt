use Rattle.std.proofs.Common.{◌≡◌, drop, take}
use Rattle.std.specs.Prelude.{bytes_eq}
use Rattle.std.specs.List.{position_from}
use Rattle.lower_annotation.specs.Seen.{texts}
use Rattle.lower_annotation.proofs.surroundings.parameter_at.Given as goal

-- it isn't among those that were passed
abbrev pub invariant-loop-index : goal.invariant-loop-index
invariant-loop-index l =
    position_from (bytes_eq l.name) l.index (texts (drop l.index (take l.count l.parameters)))
    ≡ position_from (bytes_eq l.name) 0 (texts (take l.count l.parameters))
