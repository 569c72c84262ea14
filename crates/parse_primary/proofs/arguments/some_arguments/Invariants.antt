use Rattle.std.proofs.Common.{◌-◌}
use Rattle.dart_tree.specs.Lists.{items_of}
use Rattle.parse_nest.specs.Stages.{closed_at}
use Rattle.parse_primary.proofs.Labelling.{ArgumentsSoFar}
use Rattle.parse_primary.proofs.arguments.some_arguments.Given as goal

abbrev pub invariant-loop-turn : goal.invariant-loop-turn
invariant-loop-turn g l = ArgumentsSoFar (closed_at l.depth) l.depth l.fn.cursor l.named (items_of l.found.items) l.highest (l._turn-end - l._turn) l.cursor
