use Rattle.std.proofs.Common.{◌≡◌, map, take}
use Rattle.lower_table.specs.Rows.{place_in}
use Rattle.lower_table.proofs.place.places_of.Given as goal

abbrev pub invariant-loop-number : goal.invariant-loop-number
invariant-loop-number l = l.made.items ≡ map (place_in l.fn.among) (take l.number-index l.numbers)
