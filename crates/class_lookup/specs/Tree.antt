-- Means of proof, which no public contract of a table cites: what a tree has for a name.
use Rattle.std.specs.Prelude.{◌≡◌, ℕ, zero, suc, ◌<◌, ◌≤◌, ◌/◌, ◌%◌, ◌==◌, List, length, cond, Option, Some, None, slice_get, slice_index_or}

abbrev pub slot_in : Option (List (Option ℕ)) → ℕ → Option ℕ
slot_in None digit = None
slot_in (Some node) digit = slice_index_or node digit None

-- what stands below a node at a digit
abbrev pub slot : List (List (Option ℕ)) → Option ℕ → ℕ → Option ℕ
slot nodes None digit = None
slot nodes (Some i) digit = slot_in (slice_get nodes i) digit

-- what stands below a node of so many levels, where the digits of a name lead, the lowest first
abbrev pub held : List (List (Option ℕ)) → ℕ → Option ℕ → ℕ → Option ℕ
held nodes zero at name = at
held nodes (suc n) at name = held nodes n (slot nodes at (name % 16)) (name / 16)

-- a name without its lowest digits
abbrev pub rest_of : ℕ → ℕ → ℕ
rest_of zero name = name
rest_of (suc n) name = rest_of n (name / 16)

-- What a tree has for a name: nothing for one that is longer than the tree is high.
abbrev pub entry : List (List (Option ℕ)) → ℕ → Option ℕ → ℕ → Option ℕ
entry nodes levels root name = cond (rest_of levels name == 0) (held nodes levels root name) None

abbrev pub IsListed : List (List (Option ℕ)) → Option ℕ → Type 0
IsListed nodes None = Unit {0}
IsListed nodes (Some i) = i < length nodes

-- each node of the tree is listed
abbrev pub IsTree : List (List (Option ℕ)) → ℕ → Option ℕ → Type 0
IsTree nodes zero at = Unit {0}
IsTree nodes (suc n) at = IsListed nodes at × ((digit : ℕ) → IsTree nodes n (slot nodes at digit))

-- two names have the same lowest digits
abbrev pub Agree : ℕ → ℕ → ℕ → Type 0
Agree zero a b = Unit {0}
Agree (suc n) a b = (a % 16 ≡ b % 16) × Agree n (a / 16) (b / 16)

-- nodes are only added
pub record Grows (old new : List (List (Option ℕ))) : Type 0 where
  pub longer : length old ≤ length new
  pub kept : (i : ℕ) → i < length old → slice_get new i ≡ slice_get old i

-- a tree with a number for a name, and for the others what the old one has
pub record IsPut (old new : List (List (Option ℕ))) (levels : ℕ) (root : Option ℕ) (name number : ℕ) (made : Option ℕ) : Type 0 where
  pub grows : Grows old new
  pub tree : IsTree new levels made
  pub here : (other : ℕ) → Agree levels other name → held new levels made other ≡ Some number
  pub elsewhere : (other : ℕ) → (Agree levels other name → ⊥) → held new levels made other ≡ held old levels root other
