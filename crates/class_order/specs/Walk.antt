-- Means of proof, which no public contract cites: what holds during the walk.
use Rattle.std.specs.Prelude.{◌≡◌, ℕ, ◌<◌, ◌+◌, ◌-◌, List, [], ◌∷◌, length, slice_index, slice_index_or}
use Rattle.class_order.specs.declared.header.Header.{Header}
use Rattle.class_order.specs.declared.walk.Mark.{Mark}
use Rattle.class_order.specs.declared.walk.Mark.TheVariants.{New, Open, Done}
use Rattle.class_order.specs.declared.walk.Frame.{Frame}
use Rattle.class_order.specs.Order.{above, IsBefore, IsNext}

abbrev pub mark_of : List Mark → ℕ → Mark
mark_of ms d = slice_index_or ms d New

abbrev pub frame_at : List Frame → ℕ → Frame
frame_at fs j = slice_index_or fs j (record { class = 0; next = 0 })

abbrev pub IsTouched : List Mark → ℕ → Type 0
IsTouched ms d = mark_of ms d ≡ New → ⊥

abbrev pub IsDone : Mark → Type 0
IsDone m = (i : ℕ) × (m ≡ Done i)

abbrev pub IsDoneBefore : List Mark → ℕ → ℕ → Type 0
IsDoneBefore ms i e = (j : ℕ) × (j < i) × (mark_of ms e ≡ Done j)

-- what holds of the finished classes
pub record IsFinished (hs : List Header) (ms : List Mark) (ds : List ℕ) : Type 0 where
  pub marks : length ms ≡ length hs
  pub place : (i : ℕ) → i < length ds → mark_of ms (slice_index ds i) ≡ Done i
  pub listed : (i : ℕ) → i < length ds → slice_index ds i < length hs
  pub short : (d i : ℕ) → mark_of ms d ≡ Done i → i < length ds
  pub found : (d i : ℕ) → mark_of ms d ≡ Done i → slice_index ds i ≡ d
  pub after : (i k : ℕ) → i < length ds → k < length (above hs (slice_index ds i))
      → IsDoneBefore ms i (slice_index (above hs (slice_index ds i)) k)
  pub next : (i : ℕ) → i < length ds → IsNext hs (IsBefore ds i) (slice_index ds i)

-- what holds of the classes that are begun, the outermost first
pub record IsStack (hs : List Header) (ms : List Mark) (fs : List Frame) : Type 0 where
  pub place : (j : ℕ) → j < length fs → mark_of ms (frame_at fs j).class ≡ Open j
  pub listed : (j : ℕ) → j < length fs → (frame_at fs j).class < length hs
  pub short : (d j : ℕ) → mark_of ms d ≡ Open j → j < length fs
  pub found : (d j : ℕ) → mark_of ms d ≡ Open j → (frame_at fs j).class ≡ d
  pub looked : (j k : ℕ) → j < length fs → k < (frame_at fs j).next
      → IsDone (mark_of ms (slice_index (above hs (frame_at fs j).class) k))
  pub within : (j : ℕ) → j + 1 < length fs → (frame_at fs j).next < length (above hs (frame_at fs j).class)
  pub link : (j : ℕ) → j + 1 < length fs
      → slice_index (above hs (frame_at fs j).class) (frame_at fs j).next ≡ (frame_at fs (j + 1)).class
  pub first : (c : ℕ) → 0 < length fs → c < (frame_at fs 0).class → IsDone (mark_of ms c)

pub record IsWalk (hs : List Header) (ms : List Mark) (ds : List ℕ) (fs : List Frame) : Type 0 where
  pub finished : IsFinished hs ms ds
  pub stack : IsStack hs ms fs

-- how many steps a class will take that is not begun
abbrev pub share : Mark → ℕ → ℕ
share New n = 2 + n
share (Open j) n = 0
share (Done i) n = 0

abbrev pub untouched : List Mark → List Header → ℕ
untouched [] hs = 0
untouched (m ∷ ms) [] = 0
untouched (m ∷ ms) (h ∷ hs) = share m (length h.above.items) + untouched ms hs

-- how many steps the begun classes will still take
abbrev pub waiting : List Header → List Frame → ℕ
waiting hs [] = 0
waiting hs (f ∷ fs) = 1 + (length (above hs f.class) - f.next) + waiting hs fs

-- how many steps are left
abbrev pub left : List Header → List Mark → List Frame → ℕ
left hs ms fs = untouched ms hs + waiting hs fs
