use Rattle.std.proofs.Common.{◌≡◌, [], map}
use Rattle.lower_leaf.specs.Around.{Around, text}
use Rattle.lower_leaf.specs.Seen as seen
use Rattle.lower_program.specs.Views.{static_slot}
use Rattle.lower_core.proofs.table.statics_of.Given as goal

abbrev pub invariant-loop-slot : goal.invariant-loop-slot
invariant-loop-slot l = (a : Around) → text a l.nameless ≡ [] → map (seen.static a) l.made.items ≡ map (static_slot a) l.yielded
