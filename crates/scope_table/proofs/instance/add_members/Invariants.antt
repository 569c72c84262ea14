use Rattle.std.proofs.Common.{◌≡◌, ◌++◌, drop, map, flat_map}
use Rattle.dart_tree.specs.UnitView as uv
use Rattle.scope_table.specs.Instance.{member_stretches}
use Rattle.scope_table.proofs.instance.add_members.Given as goal

-- what was found and what is left to find are all
abbrev pub invariant-loop-one : goal.invariant-loop-one
invariant-loop-one l = l.found.items ++ flat_map member_stretches (map uv.member (drop l.one-index l.all.items)) ≡ l.fn.found.items ++ flat_map member_stretches (map uv.member l.all.items)
