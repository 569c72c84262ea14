use Rattle.std.proofs.Common.{◌-◌}
use Rattle.parse_nest.specs.Stages.{closed_at}
use Rattle.parse_loop.specs.Lists.{SoFar}
use Rattle.parse_parameter.specs.Views.{parameter_at, parameters_of, default_list}
use Rattle.parse_parameter.proofs.Parameters.{defaults}
use Rattle.parse_parameter.proofs.list.default_parameters.Given as goal

abbrev pub invariant-loop-turn : goal.invariant-loop-turn
invariant-loop-turn g l = SoFar (defaults l.before (parameter_at l.depth) (closed_at l.depth)) l.depth (default_list l.before (parameter_at l.depth) (closed_at l.depth) l.fn.cursor) (parameters_of l.found) l.highest (l._turn-end - l._turn) l.cursor
