-- the text stands at no place so far
use Rattle.std.proofs.Common.{◌≡◌, ◌+◌, drop}
use Rattle.std.specs.Prelude.{option_map}
use Rattle.native_text.specs.Text.{first_place}
use Rattle.native_text.proofs.part.first_place.Given as goal

abbrev pub invariant-loop-at : goal.invariant-loop-at
invariant-loop-at l = option_map (λ k. l.at + k) (first_place l.sought (drop l.at l.units)) ≡ first_place l.sought l.units
