use Rattle.std.proofs.Common.{◌≡◌, ◌++◌, drop}
use Rattle.core_text.specs.Constant.{units}
use Rattle.core_text.proofs.value.push_units.Given as goal

abbrev pub invariant-loop-unit : goal.invariant-loop-unit
invariant-loop-unit l = l.bytes ++ units (drop l.unit-index l.units) ≡ l.fn.bytes ++ units l.units
