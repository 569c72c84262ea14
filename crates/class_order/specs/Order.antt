-- The order of classes: depth first in source order, so that each comes after those that its header names.
use Rattle.std.specs.Prelude.{◌≡◌, ℕ, ◌<◌, List, [], length, Option, Some, None, slice_get, slice_index}
use Rattle.class_order.specs.declared.header.Header.{Header}

abbrev pub above_in : Option Header → List ℕ
above_in None = []
above_in (Some h) = h.above.items

-- the classes that the header of a class names, in source order
abbrev pub above : List Header → ℕ → List ℕ
above hs d = above_in (slice_get hs d)

-- a class stands among the first i of an order
abbrev pub IsBefore : List ℕ → ℕ → ℕ → Type 0
IsBefore ds i e = (j : ℕ) × (j < i) × (slice_index ds j ≡ e)

-- From class d down to e: each time to the first class that the header names and of which P does not hold.
pub data Descends (hs : List Header) (P : ℕ → Type 0) : ℕ → ℕ → Type 0 where
  here : (d : ℕ) → Descends hs P d d
  down : (d k e : ℕ) → k < length (above hs d) → ((j : ℕ) → j < k → P (slice_index (above hs d) j))
      → (P (slice_index (above hs d) k) → ⊥) → Descends hs P (slice_index (above hs d) k) e → Descends hs P d e

-- Where P holds of the classes that are finished, a walk, depth first, finishes class d next: it descends to it from the
-- first class in source order that is not finished.
pub record IsNext (hs : List Header) (P : ℕ → Type 0) (d : ℕ) : Type 0 where
  pub root : ℕ
  pub listed : root < length hs
  pub first : (c : ℕ) → c < root → P c
  pub new : P root → ⊥
  pub descends : Descends hs P root d

-- Each class once, and after all that its header names, in the order in which a walk finishes them, depth first.
pub record IsOrder (hs : List Header) (ds : List ℕ) : Type 0 where
  pub listed : (i : ℕ) → i < length ds → slice_index ds i < length hs
  pub once : (i j : ℕ) → i < length ds → j < length ds → slice_index ds i ≡ slice_index ds j → i ≡ j
  pub each : (d : ℕ) → d < length hs → IsBefore ds (length ds) d
  pub after : (i k : ℕ) → i < length ds → k < length (above hs (slice_index ds i))
      → IsBefore ds i (slice_index (above hs (slice_index ds i)) k)
  pub next : (i : ℕ) → i < length ds → IsNext hs (IsBefore ds i) (slice_index ds i)

-- headers lead from a class to another
pub data Leads (hs : List Header) : ℕ → ℕ → Type 0 where
  names : (d k : ℕ) → k < length (above hs d) → Leads hs d (slice_index (above hs d) k)
  passes : (d k e : ℕ) → k < length (above hs d) → Leads hs (slice_index (above hs d) k) e → Leads hs d e

-- some class leads back to itself
abbrev pub HasCycle : List Header → Type 0
HasCycle hs = (d : ℕ) × Leads hs d d

-- each class that a header names is listed
abbrev pub AreListed : List Header → Type 0
AreListed hs = (d k : ℕ) → k < length (above hs d) → slice_index (above hs d) k < length hs
