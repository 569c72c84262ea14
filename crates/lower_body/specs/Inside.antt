-- The state of a walk inside of a class, and behind it.
use Rattle.std.specs.Prelude.{ℕ}
use Rattle.translation.specs.Surroundings.{Names}
use Rattle.translation.specs.Walk.{State}

abbrev pub entered : Names → State → State
entered names st = record st { names = names; variables = 0 }

abbrev pub left : Names → ℕ → State → State
left names variables st = record st { names = names; variables = variables }
