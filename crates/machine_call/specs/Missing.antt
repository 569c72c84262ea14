-- What comes of a call of `noSuchMethod`.
use Rattle.std.specs.Prelude.{◌≡◌, ◌<◌, ◌+◌, ◌-◌, ℕ, Some}
use Rattle.dart_base.specs.declared.place.Place.{Place}
use Rattle.dart_ir.specs.declared.class.Role.TheVariants.{Method}
use Rattle.dart_ir.specs.declared.value.Value.{Value}
use Rattle.evaluation.specs.State.{Outcome, Meaning, World}
use Rattle.evaluation.specs.Arguments.{alone}
use Rattle.evaluation.specs.Invocation.{missing_from}
use Rattle.machine_frame.specs.declared.around.Around.{Around}
use Rattle.machine_frame.specs.declared.run.Run.{Run}
use Rattle.machine_frame.specs.Outside.{setting_of}
use Rattle.machine_frame.specs.Frames.{going, does, room, work}
use Rattle.machine_call.specs.declared.missing.Told.{Told}
use Rattle.machine_call.specs.declared.missing.Told.TheVariants.{Goes, Again}

-- noSuchMethod that is called for itself, with an Invocation alone
abbrev pub missing_alone : Around → Place → ℕ → Value → Value → World → Meaning
missing_alone a at class this i w = missing_from w at (Some class) Method (setting_of a).known.no_such_method this (alone i)

-- how the run ends from there
abbrev pub told_as : Around → Place → ℕ → Value → Run → Told → Outcome
told_as a at class this r (Goes c) = going a r c
told_as a at class this r (Again i) = does a r (missing_alone a at class this i)

-- the units left for objects
abbrev pub units_left : Run → ℕ
units_left r = r.store.limit - r.store.used

-- the work has become less, or the units have
abbrev pub IsNearer : Run → Run → Told → Type 0
IsNearer old new (Goes c) = work new c < room old + 6
IsNearer old new (Again i) = (room new ≡ room old) × (units_left new < units_left old)
