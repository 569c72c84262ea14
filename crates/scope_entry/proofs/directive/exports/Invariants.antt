use Rattle.std.proofs.Common.{map, slice_get, take}
use Rattle.std.specs.List.{AllZip}
use Rattle.dart_tree.specs.UnitView as uv
use Rattle.scope_declared.specs.Number.{number_of}
use Rattle.scope_entry.specs.Directives.{IsExport}
use Rattle.scope_entry.proofs.directive.exports.Given as goal

abbrev pub invariant-loop-edge : goal.invariant-loop-edge
invariant-loop-edge l = AllZip (IsExport (number_of l.names l.library) (slice_get (map uv.unit l.units) l.at)) (take l.edge-index l.edges) l.made.items
