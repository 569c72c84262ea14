-- What a name of a library is bound to (ECMA-408, Imports, Exports, Identifier Reference).
use Rattle.std.specs.Prelude.{◌≡◌, ◌≢◌, ℕ, Bool, true, false, ◌==◌, List, [], Option, Some, None, slice_get, filter, Contains}
use Rattle.std.specs.List.{list_any}
use Rattle.dart_base.specs.declared.name.Name.{Name}
use Rattle.scope_space.specs.declared.declaration.Declaration.{Declaration}
use Rattle.scope_space.specs.declared.library.Import.{Import}
use Rattle.scope_space.specs.declared.library.Library.{Library}
use Rattle.scope_space.specs.declared.bound.Bound.{Bound}
use Rattle.scope_space.specs.declared.bound.Bound.TheVariants.{Given, Ambiguous, Unknown}
use Rattle.scope_space.specs.declared.bound.Binding.{Binding}
use Rattle.scope_space.specs.declared.bound.Binding.TheVariants.{Own, Prefix, Imported}
use Rattle.scope_space.specs.Library.{is_named, declares, passes}
use Rattle.scope_space.specs.Hands.{Hands}

-- Whether an import has the prefix that is asked for, or none where none is asked for.
abbrev pub is_under : Option Name → Option Name → Bool
is_under None None = true
is_under (Some prefix) (Some given) = given.0 == prefix.0
is_under prefix given = false

-- An import of library number `at` offers the name under the prefix, or under none, as library `owner` declares it.
pub record Offers (libraries : List Library) (at : ℕ) (prefix : Option Name) (name owner : ℕ) : Type 0 where
  pub library : Library
  pub is : slice_get libraries at ≡ Some library
  pub import : Import
  pub among : Contains library.imports.items import
  pub under : is_under prefix import.prefix ≡ true
  pub through : passes name import.combinators.items ≡ true
  pub handed : Hands libraries name owner import.target

abbrev pub is_dart_in : Option Library → Bool
is_dart_in None = false
is_dart_in (Some library) = library.is_dart

-- Whether the library is one of `dart:`, and not of the program's own files.
abbrev pub is_dart : List Library → ℕ → Bool
is_dart libraries owner = is_dart_in (slice_get libraries owner)

-- Of the owners that are offered, one of `dart:` wins only where all are of `dart:`.
pub record Wins (libraries : List Library) (Offered : ℕ → Type 0) (owner : ℕ) : Type 0 where
  pub offered : Offered owner
  pub over : (other : ℕ) → Offered other → is_dart libraries owner ≡ true → is_dart libraries other ≡ true

-- Two owners that win.
pub record AreRivals (libraries : List Library) (Offered : ℕ → Type 0) (one other : ℕ) : Type 0 where
  pub wins : Wins libraries Offered one
  pub also : Wins libraries Offered other
  pub apart : one ≢ other

-- A name is given by the one owner that wins, ambiguous where two win, and unknown where none is offered.
abbrev pub IsBoundAmong : List Library → (ℕ → Type 0) → Bound → Type 0
IsBoundAmong libraries Offered (Given owner) =
    Wins libraries Offered owner × ((other : ℕ) → Wins libraries Offered other → other ≡ owner)
IsBoundAmong libraries Offered Ambiguous = (one : ℕ) × (other : ℕ) × AreRivals libraries Offered one other
IsBoundAmong libraries Offered Unknown = (owner : ℕ) → Offered owner → ⊥

-- What the name is bound to in the namespace of a prefix of library number `at`, or in that of its imports without one.
abbrev pub IsBound : List Library → ℕ → Option Name → ℕ → Bound → Type 0
IsBound libraries at prefix name = IsBoundAmong libraries (Offers libraries at prefix name)

abbrev pub own_in : Option Library → ℕ → List Declaration
own_in None name = []
own_in (Some library) name = filter (is_named name) library.declarations

-- The declarations of the name that library number `at` has itself.
abbrev pub own : List Library → ℕ → ℕ → List Declaration
own libraries at name = own_in (slice_get libraries at) name

abbrev pub declares_in : Option Library → ℕ → Bool
declares_in None name = false
declares_in (Some library) name = declares library name

abbrev pub is_prefix : ℕ → Option Name → Bool
is_prefix name None = false
is_prefix name (Some prefix) = prefix.0 == name

abbrev pub has_prefix : Option Library → ℕ → Bool
has_prefix None name = false
has_prefix (Some library) name = list_any (λ import. is_prefix name import.prefix) library.imports.items

-- What the name means in library number `at`: a declaration of its own, else a prefix of its imports, else what they
-- offer without a prefix.
pub data IsBinding (libraries : List Library) (at name : ℕ) : Binding → Type 0 where
  own_name : declares_in (slice_get libraries at) name ≡ true → IsBinding libraries at name Own
  prefix_name : declares_in (slice_get libraries at) name ≡ false
      → has_prefix (slice_get libraries at) name ≡ true → IsBinding libraries at name Prefix
  imported_name : (bound : Bound) → declares_in (slice_get libraries at) name ≡ false
      → has_prefix (slice_get libraries at) name ≡ false → IsBound libraries at None name bound
      → IsBinding libraries at name (Imported bound)
