use Rattle.std.proofs.Common.{◌-◌}
use Rattle.dart_tree.specs.UnitView as view
use Rattle.parse_decl.specs.Views.{items_at, still_of}
use Rattle.parse_decl.proofs.Items.{ItemsSoFar}
use Rattle.parse_decl.proofs.unit.items.Given as goal

abbrev pub invariant-loop-turn : goal.invariant-loop-turn
invariant-loop-turn g l = ItemsSoFar l.depth (items_at l.depth l.fn.cursor) (view.unit l.found) (still_of l.still) l.highest (l._turn-end - l._turn) l.cursor
