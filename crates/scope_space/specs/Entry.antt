-- The function by which a program starts (ECMA-408, Scripts).
use Rattle.std.specs.Prelude.{ℕ, Bool, false, nat_le, ◌&&◌}
use Rattle.scope_space.specs.declared.declaration.Declaration.{Declaration}
use Rattle.scope_space.specs.declared.declaration.Kind.{Kind}
use Rattle.scope_space.specs.declared.declaration.Kind.TheVariants.{Function}
use Rattle.scope_space.specs.Library.{is_named}

-- A function with at most one required positional parameter.
abbrev pub can_start : Kind → Bool
can_start (Function required) = nat_le required 1
can_start kind = false

abbrev pub is_start : ℕ → Declaration → Bool
is_start main declaration = is_named main declaration && can_start declaration.kind
