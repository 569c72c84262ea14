-- A table of names, as the list of their texts by number.
use Rattle.std.specs.Prelude.{◌≡◌, ℕ, List, [], ◌∷◌, ◌++◌, Some, slice_get, bytes_eq, if◌then◌else◌}
use Rattle.std.specs.List.{list_any}

-- no text has two numbers
abbrev pub AreDistinct : List (List ℕ) → Type 0
AreDistinct texts = (i j : ℕ) (text : List ℕ) → slice_get texts i ≡ Some text → slice_get texts j ≡ Some text → i ≡ j

-- the table once the text has a name: as it was where it had one, else with the text behind the others
abbrev pub interned : List (List ℕ) → List ℕ → List (List ℕ)
interned texts text = if list_any (bytes_eq text) texts then texts else texts ++ text ∷ []
