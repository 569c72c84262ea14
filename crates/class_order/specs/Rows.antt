-- The rows of a table of classes: each class after its mixin applications, in the order of the classes.
use Rattle.std.specs.Prelude.{◌≡◌, ℕ, ◌<◌, ◌≤◌, ◌+◌, List, length, Option, Some, None, slice_get, slice_index, slice_index_or}
use Rattle.class_order.specs.declared.header.Header.{Header}
use Rattle.class_order.specs.declared.rows.Row.{Row}
use Rattle.class_order.specs.Order.{above, IsNext}

abbrev pub applications_in : Option Header → ℕ
applications_in None = 0
applications_in (Some h) = h.applications

-- how many mixin applications stand between a class and its superclass
abbrev pub applications : List Header → ℕ → ℕ
applications hs d = applications_in (slice_get hs d)

abbrev pub row_at : List Row → ℕ → Row
row_at rs c = slice_index_or rs c (record { class = 0; step = 0 })

-- Row c is that of step s of class d: as far before the class's own row, whose place is the class's number, as
-- applications are left.
abbrev pub IsPlace : List Header → List ℕ → ℕ → ℕ → ℕ → Type 0
IsPlace hs ns d s c = c + applications hs d ≡ slice_index ns d + s

-- A class's number is the place of its own row. Its mixin applications stand directly before it, in source order, and the
-- classes that its header names before these. The classes stand in the order in which a walk finishes them, depth first.
pub record AreRows (hs : List Header) (rs : List Row) (ns : List ℕ) : Type 0 where
  pub numbers : length ns ≡ length hs
  pub low : (d : ℕ) → d < length hs → applications hs d ≤ slice_index ns d
  -- each step of each class has a row
  pub within : (d s c : ℕ) → d < length hs → s ≤ applications hs d → IsPlace hs ns d s c → c < length rs
  pub class : (d s c : ℕ) → d < length hs → s ≤ applications hs d → IsPlace hs ns d s c → (row_at rs c).class ≡ d
  pub step : (d s c : ℕ) → d < length hs → s ≤ applications hs d → IsPlace hs ns d s c → (row_at rs c).step ≡ s
  -- each row is that of a step of a class
  pub listed : (c : ℕ) → c < length rs → (row_at rs c).class < length hs
  pub steps : (c : ℕ) → c < length rs → (row_at rs c).step ≤ applications hs (row_at rs c).class
  pub place : (c : ℕ) → c < length rs → IsPlace hs ns (row_at rs c).class (row_at rs c).step c
  pub after : (d k : ℕ) → d < length hs → k < length (above hs d)
      → slice_index ns (slice_index (above hs d) k) + applications hs d < slice_index ns d
  pub next : (d : ℕ) → d < length hs → IsNext hs (λ c. slice_index ns c < slice_index ns d) d

-- Means of proof, which no public contract cites.

-- the rows of the first n steps of one class are added
pub record AreAdded (rs ts : List Row) (d n : ℕ) : Type 0 where
  pub longer : length ts ≡ length rs + n
  pub kept : (c : ℕ) → c < length rs → row_at ts c ≡ row_at rs c
  pub class : (s : ℕ) → s < n → (row_at ts (length rs + s)).class ≡ d
  pub step : (s : ℕ) → s < n → (row_at ts (length rs + s)).step ≡ s

-- what holds after the first i classes of the order
pub record ArePlaced (hs : List Header) (ds : List ℕ) (i : ℕ) (rs : List Row) (ns : List ℕ) : Type 0 where
  pub numbers : length ns ≡ length hs
  pub low : (j : ℕ) → j < i → applications hs (slice_index ds j) ≤ slice_index ns (slice_index ds j)
  pub high : (j : ℕ) → j < i → slice_index ns (slice_index ds j) < length rs
  pub grow : (j k : ℕ) → j < k → k < i → slice_index ns (slice_index ds j) < slice_index ns (slice_index ds k)
  pub class : (j s c : ℕ) → j < i → s ≤ applications hs (slice_index ds j) → IsPlace hs ns (slice_index ds j) s c
      → (row_at rs c).class ≡ slice_index ds j
  pub step : (j s c : ℕ) → j < i → s ≤ applications hs (slice_index ds j) → IsPlace hs ns (slice_index ds j) s c
      → (row_at rs c).step ≡ s
  pub known : (c : ℕ) → c < length rs → (j : ℕ) × (j < i) × (slice_index ds j ≡ (row_at rs c).class)
  pub steps : (c : ℕ) → c < length rs → (row_at rs c).step ≤ applications hs (row_at rs c).class
  pub place : (c : ℕ) → c < length rs → IsPlace hs ns (row_at rs c).class (row_at rs c).step c
  pub after : (j k : ℕ) → j < i → k < length (above hs (slice_index ds j))
      → slice_index ns (slice_index (above hs (slice_index ds j)) k) + applications hs (slice_index ds j)
      < slice_index ns (slice_index ds j)
