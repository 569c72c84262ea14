use Rattle.std.proofs.Common.{◌-◌}
use Rattle.syntax_readers.specs.Declarations as spec
use Rattle.parse_loop.specs.Lists.{SoFar}
use Rattle.parse_constructor.specs.Views.{inits_of, init_list}
use Rattle.parse_constructor.proofs.Initializing.{inits_list}
use Rattle.parse_constructor.proofs.initializer.inits.Given as goal

abbrev pub invariant-loop-turn : goal.invariant-loop-turn
invariant-loop-turn g l = SoFar (inits_list (spec.init l.depth)) l.depth (init_list (spec.init l.depth) l.fn.cursor) (inits_of l.found) l.highest
    (l._turn-end - l._turn) l.cursor
