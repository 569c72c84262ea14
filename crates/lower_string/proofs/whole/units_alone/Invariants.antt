use Rattle.std.proofs.Common.{◌≡◌, Some, map, drop}
use Rattle.translation.specs.Strings as s
use Rattle.lower_string.specs.Parts.{part}
use Rattle.lower_string.proofs.whole.units_alone.Given as goal

abbrev pub invariant-loop-part : goal.invariant-loop-part
invariant-loop-part l = s.also (Some l.found) (s.units_alone (map part (drop l.part-index l.parts.items))) ≡ s.units_alone (map part l.parts.items)
