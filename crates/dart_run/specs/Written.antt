-- What a run writes of the first turn of a program, and how it finishes.
use Rattle.std.specs.Prelude.{ℕ, List, [], Option, Some, None}
use Rattle.dart_ir.specs.declared.ending.Line.{Line}
use Rattle.core_program.specs.Program.{Site}
use Rattle.evaluation.specs.State.{out_of_objects}
use Rattle.evaluation.specs.Turn.{End, limit, Turn}
use Rattle.turn_text.specs.Transcript.{turn_bytes}
use Rattle.turn_text.specs.Finish.{turn_finish}
use Rattle.dart_run.specs.declared.written.Written.{Written}

abbrev pub written_with : List (List ℕ) → List (Site ℕ) → List Line → End → Written
written_with files sites lines end = record { bytes = turn_bytes files sites lines end; finish = turn_finish lines end }

-- Where there is no turn the program's constants pass the limit of units, so nothing is printed before.
abbrev pub written : List (List ℕ) → List (Site ℕ) → Option Turn → Written
written files sites None = written_with files sites [] (limit out_of_objects)
written files sites (Some turn) = written_with files sites turn.output turn.end
