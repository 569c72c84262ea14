use Rattle.std.proofs.Common.{◌-◌}
use Rattle.dart_token.specs.declared.sign.Sign.TheVariants as s
use Rattle.token_codes.specs.Leaves.{sign}
use Rattle.syntax_readers.specs.Parameters.{parameter_first}
use Rattle.parse_loop.specs.Lists.{TrailSoFar}
use Rattle.parse_parameter.specs.Views.{parameter_at, parameters_of, some_required}
use Rattle.parse_parameter.proofs.Parameters.{required_list}
use Rattle.parse_parameter.proofs.list.some_required.Given as goal

abbrev pub invariant-loop-turn : goal.invariant-loop-turn
invariant-loop-turn g l = TrailSoFar (required_list (parameter_at l.depth)) parameter_first (sign s.Comma) (parameter_at l.depth) l.depth (some_required (parameter_at l.depth) l.fn.cursor) (parameters_of l.found) l.highest (l._turn-end - l._turn) l.cursor
