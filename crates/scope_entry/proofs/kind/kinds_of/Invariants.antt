use Rattle.std.proofs.Common.{◌≡◌, ◌++◌, drop, map, flat_map}
use Rattle.dart_tree.specs.UnitView as uv
use Rattle.scope_entry.specs.Kinds.{unit_kinds}
use Rattle.scope_entry.proofs.kind.kinds_of.Given as goal

-- the kinds so far and those that are left are all
abbrev pub invariant-loop-unit : goal.invariant-loop-unit
invariant-loop-unit l = l.kinds.items ++ flat_map unit_kinds (map uv.unit (drop l.unit-index l.units)) ≡ flat_map unit_kinds (map uv.unit l.units)
