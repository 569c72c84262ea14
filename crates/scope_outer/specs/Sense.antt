-- What the declarations of one name make it mean outside of local scopes (ECMA-408, 16.33 Identifier Reference).
use Rattle.std.specs.Prelude.{◌≡◌, ◌+◌, ◌≤◌, ℕ, Bool, true, false, List, [], ◌∷◌, Option, Some, None, filter, length, take, slice_get, slice_index, find}
use Rattle.std.specs.Option.{option_map, option_map_or}
use Rattle.scope_declared.specs.declared.declaration.DeclaredKind.{DeclaredKind}
use Rattle.scope_declared.specs.declared.declaration.DeclaredKind.TheVariants as k
use Rattle.scope_declared.specs.declared.declaration.Role.TheVariants as role
use Rattle.scope_declared.specs.declared.declaration.Declared.{Declared}
use Rattle.scope_space.specs.declared.declaration.Kind.{Kind}
use Rattle.scope_space.specs.declared.declaration.Kind.TheVariants as kind
use Rattle.scope_space.specs.declared.declaration.Declaration.{Declaration}
use Rattle.translation.specs.Surroundings.{Meaning}
use Rattle.translation.specs.Surroundings as m

abbrev pub is_class : DeclaredKind → Bool
is_class k.Class = true
is_class other = false

-- Classes are numbered as they are declared: how many stand before declaration n.
abbrev pub class_number : List Declared → ℕ → ℕ
class_number numbered n = length (filter (λ d. is_class d.kind) (take n numbered))

-- the numbers of classes for each declaration, and past the last
pub record AreClassNumbers (numbered : List Declared) (classes : List ℕ) : Type 0 where
  pub size : length classes ≡ length numbered + 1
  pub each : (n : ℕ) → n ≤ length numbered → slice_index classes n ≡ class_number numbered n

abbrev pub is_final_kind : DeclaredKind → Bool
is_final_kind (k.Owned owner role.Final) = true
is_final_kind other = false

-- whether declaration n is a variable that can't be set (8 Variables)
abbrev pub is_final : List Declared → ℕ → Bool
is_final numbered n = option_map_or (λ d. is_final_kind d.kind) (slice_get numbered n) false

abbrev pub is_getter : Kind → Bool
is_getter kind.Getter = true
is_getter other = false

abbrev pub is_setter : Kind → Bool
is_setter kind.Setter = true
is_setter other = false

-- the number of the first declaration of a kind
abbrev pub number_of_kind : (Kind → Bool) → List Declaration → Option ℕ
number_of_kind is declarations = option_map (λ d. d.number) (find (λ d. is d.kind) declarations)

abbrev pub accessors : List Declaration → Meaning
accessors declarations = m.accessors (number_of_kind is_getter declarations) (number_of_kind is_setter declarations)

-- what declaration n of that kind makes its name mean, which has these declarations
abbrev pub kind_sense : List Declared → List Declaration → ℕ → Kind → Meaning
kind_sense numbered all n kind.Class = m.class (class_number numbered n)
kind_sense numbered all n kind.Alias = m.alias n
kind_sense numbered all n kind.Variable = m.variable n (is_final numbered n)
kind_sense numbered all n (kind.Function required) = m.function n
kind_sense numbered all n kind.Getter = accessors all
kind_sense numbered all n kind.Setter = accessors all

-- what the declarations of a name in a library make it mean
abbrev pub sense : List Declared → List Declaration → Meaning
sense numbered [] = m.unknown
sense numbered (d ∷ more) = kind_sense numbered (d ∷ more) d.number d.kind
