use Rattle.std.proofs.Common.{Option, drop}
use Rattle.dart_base.specs.declared.place.Place.{Place}
use Rattle.class_size.specs.Size.{IsFirst, all_user_types}
use Rattle.class_size.proofs.first.first_too_large.Given as goal

abbrev pub invariant-loop-declaration : goal.invariant-loop-declaration
invariant-loop-declaration l = (f : Option Place) → IsFirst l.classes l.numbers (all_user_types (drop l.declaration-index l.program.declarations.items)) f → IsFirst l.classes l.numbers (all_user_types l.program.declarations.items) f
