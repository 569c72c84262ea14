-- Which declarations are numbered.
use Rattle.std.specs.Prelude.{Bool, true, false}
use Rattle.scope_declared.specs.declared.declaration.DeclaredKind.{DeclaredKind}
use Rattle.scope_declared.specs.declared.declaration.DeclaredKind.TheVariants as k

-- a class, an alias, a function, an accessor, a variable that isn't local, an operator, a constructor, a function literal
abbrev pub is_numbered : DeclaredKind → Bool
is_numbered k.LocalVariable = false
is_numbered k.LocalFunction = true
is_numbered k.Parameter = false
is_numbered k.Formal = false
is_numbered (k.TypeParameter number) = false
is_numbered k.Literal = true
is_numbered k.Class = true
is_numbered k.Alias = true
is_numbered (k.Owned owner role) = true
is_numbered k.Operator = true
is_numbered k.Constructor = true
is_numbered k.NamedConstructor = true
