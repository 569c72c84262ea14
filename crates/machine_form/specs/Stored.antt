-- Setters that write a field (ECMA-408, 10.3 Setters).
use Rattle.std.specs.Prelude.{◌≡◌, ℕ, Some, None}
use Rattle.dart_ir.specs.declared.class.Role.TheVariants.{Setter}
use Rattle.core_program.specs.ProgramView as v
use Rattle.evaluation.specs.Classes.{member}
use Rattle.machine_lookup.specs.Shapes.{writing_of_member}
use Rattle.machine_frame.specs.declared.around.Around.{Around}

-- In production the setter of the name of objects of a class writes the field.
abbrev pub WritesField : Around → ℕ → ℕ → ℕ → Type 0
WritesField a k name i =
    (a.setup.now.annotated ≡ None)
    × (writing_of_member (v.program a.program.now) (member (v.program a.program.now) (Some k) name Setter) ≡ Some i)
