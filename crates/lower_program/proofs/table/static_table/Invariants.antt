use Rattle.std.proofs.Common.{◌≡◌, map, length}
use Rattle.translation.specs.Program as p
use Rattle.lower_leaf.specs.Around.{Around}
use Rattle.lower_leaf.specs.Seen.{numbered_static}
use Rattle.lower_program.specs.Views.{static_slot}
use Rattle.lower_program.proofs.Tabled.{over}
use Rattle.lower_program.proofs.table.static_table.Given as goal

abbrev pub invariant-loop-one : goal.invariant-loop-one
invariant-loop-one l = (a : Around) → over (map (numbered_static a) l.left.items) (map (static_slot a) l.slots.items)
    ≡ p.table p.no_static (map (numbered_static a) l.initial.left.items) l.count

abbrev pub decreases-loop-one : goal.decreases-loop-one
decreases-loop-one l = length l.left.items
