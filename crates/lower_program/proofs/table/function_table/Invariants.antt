use Rattle.std.proofs.Common.{◌≡◌, map, length}
use Rattle.translation.specs.Program as p
use Rattle.lower_leaf.specs.Around.{Around}
use Rattle.lower_leaf.specs.Seen.{numbered_function}
use Rattle.lower_program.specs.Views.{function_slot}
use Rattle.lower_program.proofs.Tabled.{over}
use Rattle.lower_program.proofs.table.function_table.Given as goal

abbrev pub invariant-loop-one : goal.invariant-loop-one
invariant-loop-one l = (a : Around) → over (map (numbered_function a) l.left.items) (map (function_slot a) l.slots.items)
    ≡ p.table p.no_function (map (numbered_function a) l.initial.left.items) l.count

abbrev pub decreases-loop-one : goal.decreases-loop-one
decreases-loop-one l = length l.left.items
