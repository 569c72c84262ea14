-- Places in the order of the text, and declarations in the order in which they are kept.
use Rattle.std.specs.Prelude.{◌≡◌, ℕ, ◌==◌, ◌&&◌, ◌||◌, ◌<◌, ◌≤◌, Bool, true, false, nat_lt, List, length, slice_index, slice_index_or}
use Rattle.dart_base.specs.declared.place.Place.{Place}
use Rattle.scope_declared.specs.declared.declaration.DeclaredKind.{DeclaredKind}
use Rattle.scope_declared.specs.declared.declaration.DeclaredKind.TheVariants as k
use Rattle.scope_declared.specs.declared.declaration.Owner.{Owner}
use Rattle.scope_declared.specs.declared.declaration.Owner.TheVariants as owner
use Rattle.scope_declared.specs.declared.declaration.Declared.{Declared}

-- the first numbers decide, and where they are equal the rest does
abbrev pub before_or : ℕ → ℕ → Bool → Bool
before_or a b rest = nat_lt a b || (a == b && rest)

-- a place is before another, or equal to it where the rest holds
abbrev pub place_before_or : Place → Place → Bool → Bool
place_before_or a b rest =
    before_or a.unit b.unit (before_or a.line b.line (before_or a.column b.column rest))

abbrev pub place_before : Place → Place → Bool
place_before a b = place_before_or a b false

abbrev pub owner_depth : Owner → ℕ
owner_depth owner.Class = 1
owner_depth _ = 0

-- of the members of a class the static ones are further in
abbrev pub depth : DeclaredKind → ℕ
depth (k.Owned whose used) = owner_depth whose
depth _ = 0

-- one begins to count sooner than the other; of two that begin together, as the members of a class, the one that isn't
-- static is further out, so that a static accessor decides (10.2 Getters)
abbrev pub is_outside : Declared → Declared → Bool
is_outside a b =
    place_before_or a.extent.after b.extent.after (nat_lt (depth a.kind) (depth b.kind))

-- the order in which they are kept: name by name, and of one name from the outside to the inside
abbrev pub is_sooner : Declared → Declared → Bool
is_sooner a b = before_or a.name.0 b.name.0 (is_outside a b)

-- Means of proof: by what they are sorted, and what a table keeps.

abbrev pub sort_key : Declared → ℕ × (ℕ × (ℕ × (ℕ × ℕ)))
sort_key d =
    (d.name.0, (d.extent.after.unit, (d.extent.after.line, (d.extent.after.column, depth d.kind))))

abbrev pub IsInOrder : List Declared → Type 0
IsInOrder entries =
    (i j : ℕ) (d : Declared) → i < j → j < length entries →
    is_sooner (slice_index_or entries j d) (slice_index_or entries i d) ≡ false

-- from the index in `outer` up to an entry there is none that counts longer than it
abbrev pub EnclosesAt : List Declared → List ℕ → ℕ → Type 0
EnclosesAt entries outer i =
    (slice_index outer i ≤ i) × ((j : ℕ) (d : Declared) → slice_index outer i ≤ j → j < i →
    place_before (slice_index_or entries i d).extent.last (slice_index_or entries j d).extent.last ≡ false)

abbrev pub Encloses : List Declared → List ℕ → Type 0
Encloses entries outer = (i : ℕ) → i < length outer → EnclosesAt entries outer i
