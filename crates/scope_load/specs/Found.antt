-- What the name of a unit gives.
use Rattle.std.specs.Prelude.{ℕ, Bool, true, false, Result, Ok, Err, ◌↔◌}
use Rattle.dart_tree.specs.Unit.{UnitTree}
use Rattle.dart_tree.specs.UnitView as view
use Rattle.scope_load.specs.declared.units.UnitName.{UnitName}
use Rattle.scope_load.specs.declared.units.TextReason.{TextReason}
use Rattle.scope_load.specs.declared.units.Found.{Found}
use Rattle.scope_load.specs.declared.units.Found.TheVariants as f
use Rattle.scope_load.specs.declared.units.TakeFault.{TakeFault}
use Rattle.scope_load.specs.declared.units.TakeFault.TheVariants as take

-- no file, a text that is no unit for a reason, or a unit with its weight
pub data FoundIs : Type 0 where
  absent : FoundIs
  refused : TextReason → FoundIs
  read : UnitTree → ℕ → FoundIs

abbrev pub found_is : Found → FoundIs
found_is f.Absent = absent
found_is (f.Refused reason) = refused reason
found_is (f.Read unit weight) = read (view.unit unit) weight

-- The answer is that the units failed.
abbrev pub take_failed : {T : Type 0} → Result T TakeFault → Bool
take_failed (Ok found) = false
take_failed (Err take.Failed) = true
take_failed (Err take.Memory) = false

-- what units give: the number and the name of a unit, and what they give for it
abbrev pub Giving : Type 1
Giving = ℕ → UnitName → FoundIs → Type 0

-- The same units are given.
abbrev pub SameUnits : Giving → Giving → Type 0
SameUnits some others = (number : ℕ) (name : UnitName) (found : FoundIs) → (some number name found ↔ others number name found)
