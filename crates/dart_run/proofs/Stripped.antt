-- A table of classes stays valid where annotations ask for nothing.
use Rattle.std.proofs.Common.{◌≡◌, ℕ, ap}
use Rattle.dart_ir.specs.Classes.{IsValid}
use Rattle.core_program.specs.declared.program.CoreProgram.{CoreProgram}
use Rattle.core_program.specs.Program.{Program}
use Rattle.core_program.specs.ProgramView.{program}
use Rattle.core_program.specs.Stripped as stripped
use Rattle.core_program.proofs.ClassesStay.{valid_classes}

pub classes_stay : (x y : CoreProgram) → program y ≡ stripped.program (program x) → IsValid x.classes → IsValid y.classes
classes_stay x y e h =
    valid_classes x.classes y.classes (ap (λ (q : Program ℕ). q.classes) e) (ap (λ (q : Program ℕ). q.members) e)
    (ap (λ (q : Program ℕ). q.function_class) e) h
