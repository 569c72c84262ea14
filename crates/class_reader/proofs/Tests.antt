-- Tests of the members of a class.
use Rattle.std.proofs.Common.{◌≡◌, List, [], ◌∷◌, Bool, ◌||◌, map, refl, ap}
use Rattle.std.specs.List.{list_any}

pub any_seen : {X Y : Type 0} (test : Y → Bool) (see : X → Y) (xs : List X) → list_any (λ x. test (see x)) xs ≡ list_any test (map see xs)
any_seen test see [] = refl
any_seen test see (x ∷ xs) = ap (λ (b : Bool). test (see x) || b) (any_seen test see xs)
