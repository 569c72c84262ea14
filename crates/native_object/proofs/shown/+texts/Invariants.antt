-- the type arguments that are left make the text whole
use Rattle.std.proofs.Common.{◌≡◌, ◌++◌, drop}
use Rattle.std.specs.Prelude.{codes}
use Rattle.dart_ir.specs.Ty.{tys}
use Rattle.native_object.specs.Shown.{types_text}
use Rattle.native_object.specs.ShownView.{around}
use Rattle.native_object.proofs.shown.+texts.Given as goal

abbrev pub invariant-push_class-loop-t : goal.invariant-push_class-loop-t
invariant-push_class-loop-t l =
    l.units ++ types_text (around l.a) l.before (tys (drop l.t-index l.types)) ≡ l.initial.units ++ types_text (around l.a) (codes "<") (tys l.types)
