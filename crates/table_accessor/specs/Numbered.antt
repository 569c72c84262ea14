-- The numbers of implicit accessors in a table of classes (ECMA-408, 10.5 Instance Variables, 12.1 Mixin Application). A table that is read
-- from declarations gives the getter and the setter that a field induces the number of the field's declaration. In a program they have
-- numbers of their own, behind those of all declarations: row by row, and in each row in the order of its members.
use Rattle.std.specs.Prelude.{◌≡◌, ℕ, ◌+◌, ◌==◌, ◌&&◌, List, [], ◌∷◌, map, Bool, true, false, slice_get, unwrap_or, if◌then◌else◌}
use Rattle.std.specs.Option.{option_map_or}
use Rattle.dart_ir.specs.declared.class.Classes.{Classes}
use Rattle.dart_ir.specs.declared.class.Role.{Role}
use Rattle.dart_ir.specs.declared.class.Role.TheVariants.{Method, Getter, Setter}
use Rattle.core_program.specs.Program as p
use Rattle.core_program.specs.ProgramView as pv
use Rattle.scope_declared.specs.declared.declaration.Declared.{Declared}
use Rattle.scope_program.specs.Program.{Scoping}
use Rattle.lower_added.specs.Written.{is_field}
use Rattle.lower_table.specs.Rows.{rows_of, starts_of}
use Rattle.lower_table.specs.Table.{source_of}

-- ---- members that fields induce

-- whether the declaration of that number is a field of each instance
abbrev pub is_field_at : List Declared → ℕ → Bool
is_field_at numbered n = option_map_or (λ (d : Declared). is_field d.kind) (slice_get numbered n) false

abbrev pub is_accessor : Role → Bool
is_accessor Method = false
is_accessor Getter = true
is_accessor Setter = true

-- A getter or setter is induced where its function is the declaration of a field.
abbrev pub is_induced : List Declared → p.Member ℕ → Bool
is_induced numbered x = is_accessor x.role && is_field_at numbered x.function

-- ---- their numbers

-- the number at which what is added to a row begins
abbrev pub start_at : List ℕ → ℕ → ℕ
start_at starts row = unwrap_or (slice_get starts row) 0

-- The next number in the row of an owner: it goes on in the row at hand, and another row begins at its start.
abbrev pub next_in : List ℕ → ℕ → ℕ → ℕ → ℕ
next_in starts row next owner = if owner == row then next else start_at starts owner

-- an induced member takes the number
abbrev pub with_number : Bool → ℕ → p.Member ℕ → p.Member ℕ
with_number induced n x = if induced then record x { function = n } else x

-- and the next number is behind it
abbrev pub number_after : Bool → ℕ → ℕ
number_after induced n = if induced then n + 1 else n

-- Members in order, behind those of the row at hand, in which this is the next number: each induced member takes the next number of its row,
-- and all others stay.
abbrev pub numbered_from : List Declared → List ℕ → ℕ → ℕ → List (p.Member ℕ) → List (p.Member ℕ)
numbered_from numbered starts row next [] = []
numbered_from numbered starts row next (x ∷ xs) =
    let n = next_in starts row next x.owner in
    with_number (is_induced numbered x) n x ∷ numbered_from numbered starts x.owner (number_after (is_induced numbered x) n) xs

-- all members of a table, where what is added to its rows begins at these numbers
abbrev pub all_numbered : List Declared → List ℕ → List (p.Member ℕ) → List (p.Member ℕ)
all_numbered numbered starts members = numbered_from numbered starts 0 (start_at starts 0) members

-- ---- of a program

-- the members of a program's table with these numbers
abbrev pub members_numbered : Scoping → Classes → List (p.Member ℕ)
members_numbered s k = all_numbered s.numbered (starts_of (source_of s) (rows_of s.texts k)) (map pv.member k.members.items)

-- the table of a program in which induced members have their numbers
pub record IsNumbered (s : Scoping) (k made : Classes) : Type 0 where
  pub classes : made.classes ≡ k.classes
  pub function : made.function ≡ k.function
  pub members : map pv.member made.members.items ≡ members_numbered s k
