-- Means of proof, which no public contract cites: what holds during the search for the classes that a class leads to.
use Rattle.std.specs.Prelude.{◌≡◌, ℕ, ◌<◌, ◌≤◌, ◌+◌, List, [], ◌∷◌, Bool, true, false, length, slice_index, slice_index_or}
use Rattle.class_order.specs.declared.header.Header.{Header}
use Rattle.class_order.specs.Order.{above}
use Rattle.class_fault.specs.Reach.{LeadsTo}

abbrev pub is_seen : List Bool → ℕ → Bool
is_seen bs d = slice_index_or bs d false

abbrev pub unseen : List Bool → ℕ
unseen [] = 0
unseen (true ∷ bs) = unseen bs
unseen (false ∷ bs) = 1 + unseen bs

-- The queue holds the classes that were seen; headers lead to each of them.
pub record IsSearch (hs : List Header) (from : ℕ) (bs : List Bool) (q : List ℕ) : Type 0 where
  pub size : length bs ≡ length hs
  pub found : (d : ℕ) → is_seen bs d ≡ true → (j : ℕ) × (j < length q) × (slice_index q j ≡ d)
  pub listed : (j : ℕ) → j < length q → slice_index q j < length hs
  pub led : (j : ℕ) → j < length q → LeadsTo hs from (slice_index q j)

-- the first i classes of the queue are looked at
abbrev pub AreLooked : List Header → List Bool → List ℕ → ℕ → Type 0
AreLooked hs bs q i = (j k : ℕ) → j < i → k < length (above hs (slice_index q j))
    → is_seen bs (slice_index (above hs (slice_index q j)) k) ≡ true

-- more was seen, and the queue is longer by as much
pub record IsSeenMore (xs bs : List Bool) (p q : List ℕ) : Type 0 where
  pub seen : (d : ℕ) → is_seen xs d ≡ true → is_seen bs d ≡ true
  pub kept : (j : ℕ) → j < length p → slice_index q j ≡ slice_index p j
  pub grows : length p ≤ length q
  pub longer : unseen bs + length q ≡ unseen xs + length p
