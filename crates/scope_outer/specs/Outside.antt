-- What a name that is written in a library means, outside of local scopes and of classes (ECMA-408, 16.33 Identifier Reference, 18
-- Libraries and Scripts).
use Rattle.std.specs.Prelude.{◌≡◌, ℕ, List, Option, Some, None}
use Rattle.scope_declared.specs.declared.declaration.Declared.{Declared}
use Rattle.scope_space.specs.declared.library.Library.{Library}
use Rattle.scope_space.specs.declared.bound.Bound.{Bound}
use Rattle.scope_space.specs.declared.bound.Bound.TheVariants as b
use Rattle.scope_space.specs.declared.bound.Binding.{Binding}
use Rattle.scope_space.specs.declared.bound.Binding.TheVariants.{Own, Prefix, Imported}
use Rattle.scope_space.specs.Namespace.{IsBinding, IsBound, own}
use Rattle.translation.specs.Surroundings.{Meaning}
use Rattle.translation.specs.Surroundings as m
use Rattle.scope_outer.specs.Sense.{sense}
use Rattle.scope_outer.specs.declared.meaning.Scopes as made

-- a program's libraries, and the declarations that have numbers
pub record Scopes : Type 0 where
  pub libraries : List Library
  pub numbered : List Declared

abbrev pub scopes_of : made.Scopes → Scopes
scopes_of s = record { libraries = s.spaces.now; numbered = s.numbered.declarations.now }

-- what a library's own declarations of a name make it mean
abbrev pub own_sense : Scopes → ℕ → ℕ → Meaning
own_sense scopes library name = sense scopes.numbered (own scopes.libraries library name)

abbrev pub bound_sense : Scopes → ℕ → Bound → Meaning
bound_sense scopes name (b.Given owner) = own_sense scopes owner name
bound_sense scopes name b.Ambiguous = m.ambiguous
bound_sense scopes name b.Unknown = m.unknown

abbrev pub binding_sense : Scopes → ℕ → ℕ → Binding → Meaning
binding_sense scopes library name Own = own_sense scopes library name
binding_sense scopes library name Prefix = m.prefix
binding_sense scopes library name (Imported bound) = bound_sense scopes name bound

-- a name means in a library what it is bound to there
pub data Means (scopes : Scopes) (library : ℕ) (name : ℕ) : Meaning → Type 0 where
  bound_to : (binding : Binding) → IsBinding scopes.libraries library name binding
      → Means scopes library name (binding_sense scopes library name binding)

-- and behind a prefix, what its imports under that prefix give
pub data MeansBehind (scopes : Scopes) (library prefix name : ℕ) : Meaning → Type 0 where
  bound_behind : (bound : Bound) → IsBound scopes.libraries library (Some (record { 0 = prefix })) name bound
      → MeansBehind scopes library prefix name (bound_sense scopes name bound)
