-- The declarations of libraries, with their numbers in a program (ECMA-408, 18 Libraries and Scripts).
use Rattle.std.specs.Prelude.{ℕ, Bool, true, false, ◌==◌, List, [], filter, map, slice_get, unwrap_or}
use Rattle.std.specs.List.{enumerate_from, zip}
use Rattle.dart_base.specs.declared.name.Name.{Name}
use Rattle.scope_declared.specs.declared.declaration.Owner.{Owner}
use Rattle.scope_declared.specs.declared.declaration.Owner.TheVariants as owner
use Rattle.scope_declared.specs.declared.declaration.DeclaredKind.{DeclaredKind}
use Rattle.scope_declared.specs.declared.declaration.DeclaredKind.TheVariants as k
use Rattle.scope_declared.specs.declared.declaration.Declared.{Declared}
use Rattle.scope_declared.specs.Kinds.{is_numbered}
use Rattle.scope_declared.specs.Number.{is_private}
use Rattle.scope_space.specs.declared.declaration.Kind.{Kind}
use Rattle.scope_space.specs.declared.declaration.Declaration.{Declaration}
use Rattle.scope_entry.specs.declared.entry.Entry.{Entry}

-- The declarations that have a number, of what the units of a program declare in the order of units and tokens: a
-- declaration's number is its place here.
abbrev pub numbered : List Declared → List Declared
numbered declared = filter (λ d. is_numbered d.kind) declared

abbrev pub is_library : Owner → Bool
is_library owner.Library = true
is_library owner.Class = false
is_library owner.Object = false

-- what a library itself declares, and none of its classes and functions
abbrev pub is_own : DeclaredKind → Bool
is_own k.Class = true
is_own k.Alias = true
is_own (k.Owned whose role) = is_library whose
is_own k.LocalVariable = false
is_own k.LocalFunction = false
is_own k.Parameter = false
is_own k.Formal = false
is_own (k.TypeParameter number) = false
is_own k.Literal = false
is_own k.Operator = false
is_own k.Constructor = false
is_own k.NamedConstructor = false

-- what the libraries declare, each with its number
abbrev pub own : List Declared → List (ℕ × Declared)
own numbered = filter (λ p. is_own p.1.kind) (enumerate_from 0 numbered)

-- the text of the name begins with `_` (6.2 Privacy)
abbrev pub is_private_name : List (List ℕ) → Name → Bool
is_private_name names name = is_private (unwrap_or (slice_get names name.0) [])

-- a library's declaration of this number and kind; a library's own scope has its number for a unit
abbrev pub entry_of : List (List ℕ) → (ℕ × Declared) × Kind → Entry
entry_of names of = record {
  library = of.0.1.extent.scope.unit;
  declaration = record { name = of.0.1.name; number = of.0.0; kind = of.1; is_private = is_private_name names of.0.1.name };
}

-- the declarations of all libraries, from the numbered ones and the kinds of what units declare for their libraries, both
-- in the order of units and tokens
abbrev pub entries : List (List ℕ) → List Declared → List Kind → List Entry
entries names numbered kinds = map (entry_of names) (zip (own numbered) kinds)

-- what a library declares, in the order of units and tokens
abbrev pub declarations_of : List Entry → ℕ → List Declaration
declarations_of entries library = map (λ e. e.declaration) (filter (λ e. e.library == library) entries)
