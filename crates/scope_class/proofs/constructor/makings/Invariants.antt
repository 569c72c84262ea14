use Rattle.std.proofs.Common.{◌≡◌, ◌++◌, drop, map, flat_map}
use Rattle.dart_tree.specs.UnitView as view
use Rattle.dart_tree.specs.Unit.{Member}
use Rattle.scope_class.specs.Constructors.{member_makings}
use Rattle.scope_class.proofs.constructor.makings.Given as goal

-- what was found and what is left to find are all
abbrev pub invariant-loop-member : goal.invariant-loop-member
invariant-loop-member l = l.ways.items ++ flat_map (λ (m : Member). member_makings m.kind) (map view.member (drop l.member-index l.members))
    ≡ flat_map (λ (m : Member). member_makings m.kind) (map view.member l.members)
