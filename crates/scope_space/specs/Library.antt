-- What a library declares, and what combinators let through (ECMA-408, Libraries and Scripts).
use Rattle.std.specs.Prelude.{ℕ, Bool, not, ◌==◌, ◌&&◌, List}
use Rattle.std.specs.List.{list_any, list_all}
use Rattle.dart_base.specs.declared.name.Name.{Name}
use Rattle.scope_space.specs.declared.declaration.Declaration.{Declaration}
use Rattle.scope_space.specs.declared.combinator.Combinator.{Combinator}
use Rattle.scope_space.specs.declared.combinator.Combinator.TheVariants.{Show, Hide}
use Rattle.scope_space.specs.declared.library.Library.{Library}

abbrev pub is_named : ℕ → Declaration → Bool
is_named name declaration = declaration.name.0 == name

-- Whether the library itself declares the name.
abbrev pub declares : Library → ℕ → Bool
declares library name = list_any (is_named name) library.declarations

-- Whether it declares the name for others too: a private name is its own.
abbrev pub shares : Library → ℕ → Bool
shares library name =
    list_any (λ declaration. is_named name declaration && not declaration.is_private) library.declarations

abbrev pub is_among : List Name → ℕ → Bool
is_among names name = list_any (λ one. one.0 == name) names

-- `show` lets its names through, `hide` all others.
abbrev pub lets : ℕ → Combinator → Bool
lets name (Show names) = is_among names name
lets name (Hide names) = not (is_among names name)

-- All combinators of an import or export have to let a name through.
abbrev pub passes : ℕ → List Combinator → Bool
passes name combinators = list_all (lets name) combinators
