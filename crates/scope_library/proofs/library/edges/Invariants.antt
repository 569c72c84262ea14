use Rattle.std.proofs.Common.{◌≡◌, ◌++◌, drop, filter_map, map}
use Rattle.dart_tree.specs.UnitView.{unit}
use Rattle.scope_library.specs.Library.{link_edge}
use Rattle.scope_library.proofs.library.edges.Given as goal

abbrev pub invariant-loop-link : goal.invariant-loop-link
invariant-loop-link l = l.found.items ++ filter_map (link_edge (map unit l.units) l.kind l.by) (drop l.link-index l.links)
    ≡ filter_map (link_edge (map unit l.units) l.kind l.by) l.links
