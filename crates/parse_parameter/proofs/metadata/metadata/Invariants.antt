use Rattle.std.proofs.Common.{◌-◌}
use Rattle.syntax_readers.specs.Parameters.{metadata}
use Rattle.parse_loop.specs.Lists.{SoFar}
use Rattle.parse_parameter.specs.Views.{metadata_of}
use Rattle.parse_parameter.proofs.Annotations.{annotations}
use Rattle.parse_parameter.proofs.metadata.metadata.Given as goal
use Rattle.parse_nest.specs.Stages.{exprs_at}

abbrev pub invariant-loop-turn : goal.invariant-loop-turn
invariant-loop-turn g l = SoFar (annotations l.depth) l.depth (metadata (exprs_at l.depth) l.fn.cursor) (metadata_of l.found) l.highest (l._turn-end - l._turn) l.cursor
