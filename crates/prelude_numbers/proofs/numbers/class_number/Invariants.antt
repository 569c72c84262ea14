-- what is left makes the number whole
use Rattle.std.proofs.Common.{◌≡◌, ◌+◌, drop, map}
use Rattle.core_program.specs.ProgramView.{class}
use Rattle.evaluation.specs.Prelude.{class_number_in}
use Rattle.prelude_numbers.proofs.numbers.class_number.Given as goal

abbrev pub invariant-loop-class : goal.invariant-loop-class
invariant-loop-class l =
    (l.number ≡ l.class-index)
    × (l.class-index + class_number_in l.names l.unit l.text (map class (drop l.class-index l.classes)) ≡ class_number_in l.names l.unit l.text (map class l.classes))
