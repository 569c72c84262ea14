-- What the declarations of a class make names mean inside of it, and behind it (ECMA-408, 10 Classes).
use Rattle.std.specs.Prelude.{ℕ, ◌+◌, Bool, true, false, ◌==◌, ◌&&◌, List, [], ◌∷◌, Option, Some, None, drop, filter, find}
use Rattle.std.specs.Option.{option_map}
use Rattle.std.specs.List.{before_first, enumerate_from}
use Rattle.scope_declared.specs.declared.declaration.DeclaredKind.{DeclaredKind}
use Rattle.scope_declared.specs.declared.declaration.DeclaredKind.TheVariants as k
use Rattle.scope_declared.specs.declared.declaration.Owner.{Owner}
use Rattle.scope_declared.specs.declared.declaration.Owner.TheVariants as owner
use Rattle.scope_declared.specs.declared.declaration.Role.{Role}
use Rattle.scope_declared.specs.declared.declaration.Role.TheVariants as role
use Rattle.scope_declared.specs.declared.declaration.Declared.{Declared}
use Rattle.translation.specs.Surroundings.{Meaning}
use Rattle.translation.specs.Surroundings as m

abbrev pub is_library : Owner → Bool
is_library owner.Library = true
is_library owner.Class = false
is_library owner.Object = false

-- what a library itself declares, and none of its classes and functions
abbrev pub is_outermost : DeclaredKind → Bool
is_outermost k.Class = true
is_outermost k.Alias = true
is_outermost (k.Owned whose role) = is_library whose
is_outermost other = false

abbrev pub stands_outermost : Declared → Bool
stands_outermost one = is_outermost one.kind

-- What is declared inside of declaration n, bodies of its functions included, each with its number: all up to what the
-- library declares next.
abbrev pub within : List Declared → ℕ → List (ℕ × Declared)
within numbered n = enumerate_from (n + 1) (before_first stands_outermost (drop (n + 1) numbered))

-- a static variable, function or accessor (10.7 Static Methods, 10.8 Static Variables)
abbrev pub is_static : DeclaredKind → Bool
is_static (k.Owned owner.Class role) = true
is_static other = false

-- a static member, or one of each instance (10.1 Instance Methods, 10.5 Instance Variables)
abbrev pub is_member : DeclaredKind → Bool
is_member (k.Owned whose role) = true
is_member k.Operator = true
is_member other = false

abbrev pub is_static_getter : DeclaredKind → Bool
is_static_getter (k.Owned owner.Class role.Getter) = true
is_static_getter other = false

abbrev pub is_static_setter : DeclaredKind → Bool
is_static_setter (k.Owned owner.Class role.Setter) = true
is_static_setter other = false

-- the number of the first declaration of a kind
abbrev pub number_of_kind : (DeclaredKind → Bool) → List (ℕ × Declared) → Option ℕ
number_of_kind is declarations = option_map (λ p. p.0) (find (λ p. is p.1.kind) declarations)

abbrev pub accessors : List (ℕ × Declared) → Meaning
accessors declarations =
    m.accessors (number_of_kind is_static_getter declarations) (number_of_kind is_static_setter declarations)

-- what a static declaration n of that role makes its name mean, which has these declarations
abbrev pub static_kind_sense : List (ℕ × Declared) → ℕ → Role → Meaning
static_kind_sense all n role.Function = m.function n
static_kind_sense all n role.Variable = m.variable n false
static_kind_sense all n role.Final = m.variable n true
static_kind_sense all n role.Getter = accessors all
static_kind_sense all n role.Setter = accessors all

-- and one of any kind: what each instance has is a member
abbrev pub owned_sense : List (ℕ × Declared) → ℕ → Owner → Role → Meaning
owned_sense all n owner.Class role = static_kind_sense all n role
owned_sense all n owner.Object role = m.member
owned_sense all n owner.Library role = m.member

abbrev pub kind_sense : List (ℕ × Declared) → ℕ → DeclaredKind → Meaning
kind_sense all n (k.Owned whose role) = owned_sense all n whose role
kind_sense all n other = m.member

-- what the declarations of one name make it mean, if there are any
abbrev pub sense : List (ℕ × Declared) → Option Meaning
sense [] = None
sense (p ∷ more) = Some (kind_sense (p ∷ more) p.0 p.1.kind)

-- the declarations of a name, of those kinds
abbrev pub naming : (DeclaredKind → Bool) → List (ℕ × Declared) → ℕ → List (ℕ × Declared)
naming is declarations name = filter (λ p. is p.1.kind && p.1.name.0 == name) declarations

-- what a name means as a member of class n, and as a static one
abbrev pub member_sense : List Declared → ℕ → ℕ → Option Meaning
member_sense numbered n name = sense (naming is_member (within numbered n) name)

abbrev pub static_sense : List Declared → ℕ → ℕ → Option Meaning
static_sense numbered n name = sense (naming is_static (within numbered n) name)
