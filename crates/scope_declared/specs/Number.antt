-- The number of an identifier's text in a library.
use Rattle.std.specs.Prelude.{ℕ, List, ◌++◌, ◌==◌, Bool, codes, decimal, unwrap_or, bytes_eq, slice_index, if◌then◌else◌}
use Rattle.std.specs.List.{position_from}
use Rattle.std.specs.Str.{is_utf8}
use Rattle.dart_base.specs.declared.place.Place.{Place}

-- a text that the table of names lacks has this number, and so has what has no name
abbrev pub no_name : ℕ
no_name = 4294967295

-- which name of the table a text is
abbrev pub number_in : List (List ℕ) → List ℕ → ℕ
number_in texts text =
    if is_utf8 text then unwrap_or (position_from (bytes_eq text) 0 texts) no_name else no_name

-- a private identifier begins with `_` (6.2 Privacy)
abbrev pub is_private : List ℕ → Bool
is_private text = slice_index text 0 == 95

-- what stands in the table of names for an identifier of a library: a private one differs from library to library
abbrev pub name_text : ℕ → List ℕ → List ℕ
name_text library text =
    if is_private text then text ++ (codes "@" ++ decimal library) else text

-- the number of an identifier of a library
unfoldable pub number_of : List (List ℕ) → ℕ → List ℕ → ℕ
number_of texts library text = number_in texts (name_text library text)

-- where what a library declares is declared: before the first line, and told by the library's number
abbrev pub library_place : ℕ → Place
library_place library = record { unit = library; line = 0; column = 0 }
