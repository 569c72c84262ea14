use Rattle.std.proofs.Common.{◌-◌}
use Rattle.parse_nest.specs.Stages.{closed_at}
use Rattle.syntax_readers.specs.Parameters.{more_variables}
use Rattle.parse_loop.specs.Lists.{SoFar}
use Rattle.parse_parameter.specs.Views.{variables_of}
use Rattle.parse_parameter.proofs.Variables.{variables_list}
use Rattle.parse_parameter.proofs.variable.more_variables.Given as goal

abbrev pub invariant-loop-turn : goal.invariant-loop-turn
invariant-loop-turn g l = SoFar (variables_list (closed_at l.depth)) l.depth (more_variables (closed_at l.depth) l.fn.cursor) (variables_of l.found) l.highest (l._turn-end - l._turn) l.cursor
