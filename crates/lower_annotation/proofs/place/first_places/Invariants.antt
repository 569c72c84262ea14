use Rattle.std.proofs.Common.{◌≡◌, ℕ, nat_eq, drop}
use Rattle.std.specs.Prelude.{◌==◌}
use Rattle.std.specs.HashMap.{get}
use Rattle.std.specs.Option.{option_or}
use Rattle.std.specs.List.{position_from}
use Rattle.lower_annotation.specs.Annotated.{place_in}
use Rattle.lower_annotation.proofs.place.first_places.Given as goal

-- a number that has no place yet has the one where it stands first in what is left
abbrev pub invariant-loop-number : goal.invariant-loop-number
invariant-loop-number l = record {
  count : l.place ≡ l.number-index;
  known : (n : ℕ) → option_or (get nat_eq l.places n) (position_from (λ k. k == n) l.place (drop l.number-index l.numbers)) ≡ place_in l.numbers n;
}
