-- What `x = v`, `x op= v` and `x++` are, where what x holds is evaluated.
use Rattle.std.specs.Prelude.{[], ◌∷◌}
use Rattle.dart_base.specs.declared.place.Place.{Place}
use Rattle.translation.specs.Surroundings.{Text, Core}
use Rattle.translation.specs.References as r
use Rattle.translation.specs.Walk as w

abbrev pub value_written : Place → Place → w.Walk Core → r.Reference → w.Walk Core
value_written place at value of st = w.on (value st) (λ form st. r.write place at of form st)

abbrev pub value_combined : Place → Text → w.Walk Core → r.Reference → w.Walk Core
value_combined place operator value of st = w.on (r.read place of st) (λ old st. w.on (value st)
    (λ form st. r.write place place of (r.send place old operator (r.by_place (form ∷ []))) st))

-- the rest of `x++`, where a variable has what x held
abbrev pub stepped_from : Place → Text → Core → Core → r.Reference → w.Walk Core
stepped_from place operator one x of st = w.on (r.write place place of (r.send place x operator (r.by_place (one ∷ []))) st)
    (λ form st. w.went (r.block place (form ∷ x ∷ [])) st)

abbrev pub value_stepped : Place → Text → Core → r.Reference → w.Walk Core
value_stepped place operator one of st =
    w.on (r.read place of st) (λ old st. r.in_let place old (λ x st. stepped_from place operator one x of st) st)
