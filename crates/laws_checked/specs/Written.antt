-- A checked turn beside the same turn in production, at the level of bytes.
use Rattle.std.specs.Prelude.{◌≡◌, ℕ, List, ◌++◌}
use Rattle.std.specs.List.{flat_map}
use Rattle.dart_base.specs.declared.place.Place.{Place}
use Rattle.dart_ir.specs.declared.kind.SiteKind.{SiteKind}
use Rattle.core_program.specs.Program.{Program}
use Rattle.evaluation.specs.State.{Setting}
use Rattle.evaluation.specs.Checks.{Checking, lets_pass, reports, report_line, world}
use Rattle.evaluation.specs.Turn.{Entry, Isolate, Turn, turn}
use Rattle.turn_text.specs.Finish.{turn_finish}
use Rattle.turn_text.specs.Transcript.{line_bytes, report_bytes, text_bytes, turn_bytes, with_end}

abbrev pub printed_bytes : List (List ℕ) → List ℕ
printed_bytes printed = flat_map (λ units. with_end (text_bytes units)) printed

-- Both begin with these printed lines. Behind them the checked one has this report first.
pub record WriteBytesUntil (report production checked : List ℕ) : Type 0 where
  pub printed : List (List ℕ)
  pub more : List ℕ
  pub checked_more : List ℕ
  pub written : production ≡ printed_bytes printed ++ more
  pub checked_written : checked ≡ printed_bytes printed ++ (report ++ checked_more)

-- Such a report is of a check of this kind that failed at this place in these files.
pub record WriteUntilReport (production checked : List ℕ) : Type 0 where
  pub files : List (List ℕ)
  pub place : Place
  pub kind : SiteKind
  pub writes : WriteBytesUntil (report_bytes files place kind) production checked

-- what a turn of this program writes, whose files have these names
abbrev pub bytes_of : List (List ℕ) → Program ℕ → Turn → List ℕ
bytes_of files p t = turn_bytes files p.sites t.output t.end

-- They write the same and finish alike; or they write the same up to the report of a check that fails.
pub data WriteAlike (files : List (List ℕ)) (p : Program ℕ) (production checked : Turn) : Type 0 where
  written_same : bytes_of files p checked ≡ bytes_of files p production
      → turn_finish checked.output checked.end ≡ turn_finish production.output production.end → WriteAlike files p production checked
  until_report : (number : ℕ)
      → WriteBytesUntil (line_bytes files p.sites (report_line p number)) (bytes_of files p production) (bytes_of files p checked)
      → WriteAlike files p production checked

-- A checked turn writes what the turn in production writes, up to the report of the first check that fails.
abbrev pub TurnsWriteAlike : Type 0
TurnsWriteAlike = (files : List (List ℕ)) (k : Checking) (s : Setting) (depth : ℕ) (entry : Entry) (isolate : Isolate)
    → WriteAlike files k.program (turn (world k s lets_pass depth) entry isolate) (turn (world k s reports depth) entry isolate)
