-- The classes that were added to, by their numbers.
use Rattle.std.specs.Prelude.{ℕ, ◌+◌, List, [], ◌∷◌}
use Rattle.translation.specs.Applications.{Built}
use Rattle.translation.specs.Classes.{Generated}

-- numbered from a first one on, the last in front
abbrev pub built_from : ℕ → List (List Generated) → List Built → List Built
built_from n [] before = before
built_from n (x ∷ xs) before = built_from (n + 1) xs (record { class = n; constructors = x } ∷ before)
