-- Which declarations of a scope clash (6.1 Scoping).
use Rattle.std.specs.Prelude.{ℕ, ◌==◌, ◌&&◌, ◌||◌, Bool, true, false, List, [], ◌∷◌, ◌++◌, Option, None, Some, if◌then◌else◌}
use Rattle.std.specs.List.{list_any}
use Rattle.scope_declared.specs.declared.declaration.Role.{Role}
use Rattle.scope_declared.specs.declared.declaration.Role.TheVariants as role
use Rattle.scope_declared.specs.declared.declaration.DeclaredKind.{DeclaredKind}
use Rattle.scope_declared.specs.declared.declaration.DeclaredKind.TheVariants as k
use Rattle.scope_declared.specs.declared.declaration.Declared.{Declared}

-- constructors are compared with constructors alone, those with a name of their own with such (10.6 Constructors)
abbrev pub sort_of : DeclaredKind → ℕ
sort_of k.Constructor = 1
sort_of k.NamedConstructor = 2
sort_of _ = 0

-- whether the name can be read or called; a setter and what has no name cannot
abbrev pub role_is_read : Role → Bool
role_is_read role.Setter = false
role_is_read _ = true

abbrev pub is_read : DeclaredKind → Bool
is_read k.Literal = false
is_read (k.Owned owner used) = role_is_read used
is_read _ = true

-- whether the name can be set, or is no variable or accessor at all: a getter and a final variable leave room for a setter
abbrev pub role_is_set : Role → Bool
role_is_set role.Getter = false
role_is_set role.Final = false
role_is_set _ = true

abbrev pub is_set : DeclaredKind → Bool
is_set k.Literal = false
is_set (k.Owned owner used) = role_is_set used
is_set _ = true

-- what tells one name of a scope from another
abbrev pub NameKey : Type 0
NameKey = (ℕ × ℕ) × (ℕ × (ℕ × ℕ))

abbrev pub key_of : Declared → NameKey
key_of d =
    ((d.extent.scope.unit, d.extent.scope.line), (d.extent.scope.column, (d.name.0, sort_of d.kind)))

abbrev pub same_key : NameKey → NameKey → Bool
same_key a b =
    (a.0.0 == b.0.0 && a.0.1 == b.0.1) &&
    (a.1.0 == b.1.0 && (a.1.1.0 == b.1.1.0 && a.1.1.1 == b.1.1.1))

-- two declarations of a name in one scope, of which both are read or both are set
abbrev pub clashes : Declared → Declared → Bool
clashes d e =
    same_key (key_of e) (key_of d) &&
    ((is_read d.kind && is_read e.kind) || (is_set d.kind && is_set e.kind))

-- the first that clashes with one before it
abbrev pub first_clash : List Declared → List Declared → Option Declared
first_clash earlier [] = None
first_clash earlier (d ∷ more) =
    if list_any (clashes d) earlier then Some d else first_clash (earlier ++ d ∷ []) more

unfoldable pub duplicate_of : List Declared → Option Declared
duplicate_of declared = first_clash [] declared
