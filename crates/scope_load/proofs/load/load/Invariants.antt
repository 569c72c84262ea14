use Rattle.std.proofs.Common.{◌≡◌, ◌*◌, ◌^◌, ◌-◌, ◌≤◌, length}
use Rattle.scope_load.specs.Found.{SameUnits}
use Rattle.scope_load.specs.Load.{Reaches}
use Rattle.scope_load.specs.State.{state_of, most_units}
use Rattle.scope_load.proofs.load.load.Given as goal

-- what is reached, of the units that were given at first
abbrev pub invariant-units : goal.invariant-units
invariant-units g l = record {
  room : length l.loaded.names.items ≤ most_units;
  taken : length l.loaded.units.items ≤ most_units;
  weight : l.loaded.weight ≤ length l.loaded.units.items * 2 ^ 32;
  same : SameUnits (g.U.UnitReader.gives l.units l.initial.from) (g.U.UnitReader.gives l.units l.from);
  files : g.U.UnitReader.files l.units l.from ≡ g.U.UnitReader.files l.units l.initial.from;
  faults : g.U.UnitReader.faults l.units l.from ≡ g.U.UnitReader.faults l.units l.initial.from;
  reached : Reaches (g.U.UnitReader.gives l.units l.initial.from) l.root (state_of l.loaded);
}

-- how many units can still be taken
abbrev pub decreases-units : goal.decreases-units
decreases-units g l = most_units - length l.loaded.units.items
