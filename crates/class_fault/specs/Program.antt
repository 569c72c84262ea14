-- Class declarations, and what they name.
use Rattle.std.specs.Prelude.{ℕ, List, [], ◌∷◌, Bool, true, false, ◌&&◌, ◌||◌, ◌==◌, Option, Some, None, slice_get}
use Rattle.dart_base.specs.declared.name.Name.{Name}
use Rattle.dart_ir.specs.Ty.{Ty, class}
use Rattle.dart_ir.specs.declared.class.Role.{Role}
use Rattle.dart_ir.specs.declared.class.Role.TheVariants.{Method, Getter, Setter}
use Rattle.class_fault.specs.declared.program.Declaration.{Declaration}
use Rattle.class_fault.specs.declared.program.Member.{Member}
use Rattle.class_fault.specs.declared.program.Program.{Program}

abbrev pub declaration_at : Program → ℕ → Option Declaration
declaration_at p d = slice_get p.declarations.items d

-- the class that a type names
abbrev pub class_named : Ty → Option ℕ
class_named (class c ts) = Some c
class_named _ = None

abbrev pub is_method : Role → Bool
is_method Method = true
is_method Getter = false
is_method Setter = false

abbrev pub has_method : Name → List Member → Bool
has_method name [] = false
has_method name (m ∷ ms) = (m.name.0 == name.0 && is_method m.role) || has_method name ms

-- whether a class declares a method `call`, with or without a body
abbrev pub declares_call : Name → Declaration → Bool
declares_call call i = has_method call i.members.items
