-- the type arguments that are left make the count whole
use Rattle.std.proofs.Common.{◌≡◌, ◌+◌, ◌≤◌, ◌^◌, length, drop, min}
use Rattle.std.specs.Prelude.{codes}
use Rattle.dart_ir.specs.Ty.{tys}
use Rattle.native_object.specs.Shown.{types_text}
use Rattle.native_object.specs.ShownView.{around}
use Rattle.native_steps.proofs.length.+lengths.Given as goal

abbrev pub invariant-class_length-loop-t : goal.invariant-class_length-loop-t
invariant-class_length-loop-t l =
    (l.total ≤ 2 ^ 126) × (length l.before ≤ 2)
    × (min (2 ^ 126) (l.total + length (types_text (around l.a) l.before (tys (drop l.t-index l.types)))) ≡ min (2 ^ 126) (l.initial.total + length (types_text (around l.a) (codes "<") (tys l.types))))
