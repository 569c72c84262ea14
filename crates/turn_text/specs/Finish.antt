-- How a turn finishes, as a status tells it.
use Rattle.std.specs.Prelude.{List, Bool, true, false, if◌then◌else◌}
use Rattle.std.specs.List.{list_any}
use Rattle.dart_ir.specs.declared.ending.Line.{Line}
use Rattle.dart_ir.specs.declared.ending.Line.TheVariants.{Printed, Report}
use Rattle.evaluation.specs.Turn.{End, returned, uncaught, limit}
use Rattle.turn_text.specs.declared.finish.Finish.{Finish}
use Rattle.turn_text.specs.declared.finish.Finish.TheVariants.{Done, Uncaught, CheckFailed, Limit}

abbrev pub is_report : Line → Bool
is_report (Printed units) = false
is_report (Report site kind) = true

-- a check that failed is reported among the lines
abbrev pub has_report : List Line → Bool
has_report lines = list_any is_report lines

abbrev pub unless_reported : List Line → Finish → Finish
unless_reported lines finish = if has_report lines then CheckFailed else finish

-- A turn that comes to a limit finishes so, whatever was reported.
abbrev pub turn_finish : List Line → End → Finish
turn_finish lines returned = unless_reported lines Done
turn_finish lines (uncaught place text) = unless_reported lines Uncaught
turn_finish lines (limit which) = Limit
