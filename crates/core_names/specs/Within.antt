-- Programs whose names are numbers of a table.
use Rattle.std.specs.Prelude.{ℕ, ◌<◌, List, All, Bool, nat_lt, unwrap_or, bytes_eq}
use Rattle.std.specs.List.{list_all, position_from}
use Rattle.core_program.specs.Program.{Program}
use Rattle.core_names.specs.Names.{program_names}

-- each name in the program is below a count, as how many names a table has
abbrev pub AreWithin : ℕ → Program ℕ → Type 0
AreWithin count q = All (λ n. n < count) (program_names q)

-- the number of a text in a table; of a text that it lacks, 0
abbrev pub number_at : List (List ℕ) → List ℕ → ℕ
number_at texts text = unwrap_or (position_from (bytes_eq text) 0 texts) 0

-- the same of a list of names, as a test
abbrev pub are_below : ℕ → List ℕ → Bool
are_below count = list_all (λ n. nat_lt n count)
