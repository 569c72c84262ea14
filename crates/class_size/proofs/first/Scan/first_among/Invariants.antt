use Rattle.std.proofs.Common.{Option, drop}
use Rattle.dart_base.specs.declared.place.Place.{Place}
use Rattle.class_size.specs.Size.{IsFirst}
use Rattle.class_size.proofs.first.Scan.first_among.Given as goal

abbrev pub invariant-loop-t : goal.invariant-loop-t
invariant-loop-t l = (f : Option Place) → IsFirst l.self.sizes.classes.now l.self.numbers.now (drop l.t-index l.types) f → IsFirst l.self.sizes.classes.now l.self.numbers.now l.types f
