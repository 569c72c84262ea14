-- the lines so far are added
use Rattle.std.proofs.Common.{◌≡◌, ◌++◌, map, take}
use Rattle.core_program.specs.ProgramView as view
use Rattle.turn_text.specs.Transcript.{lines_bytes}
use Rattle.turn_text.proofs.transcript.push_lines.Given as goal

abbrev pub invariant-loop-line : goal.invariant-loop-line
invariant-loop-line l = l.bytes ≡ l.fn.bytes ++ lines_bytes l.files (map view.site l.sites) (take l.line-index l.lines)
