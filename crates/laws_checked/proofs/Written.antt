-- What lines write that begin alike begins alike.
use Rattle.std.proofs.Common.{◌≡◌, ℕ, List, [], ◌∷◌, ◌++◌, map, refl, sym, ap, ◌∙◌, append_assoc}
use Rattle.dart_ir.specs.declared.ending.Line.{Line}
use Rattle.dart_ir.specs.declared.ending.Line.TheVariants.{Printed}
use Rattle.core_program.specs.Program.{Site}
use Rattle.evaluation.specs.Checks.{Checking, report_line}
use Rattle.evaluation.specs.Turn.{End, Turn}
use Rattle.turn_text.specs.Finish.{turn_finish}
use Rattle.turn_text.specs.Transcript.{with_end, text_bytes, line_bytes, lines_bytes, end_bytes, turn_bytes}
use Rattle.laws_checked.specs.Laws.{WriteUntil, Follows, no_check_fails, until_report}
use Rattle.laws_checked.specs.Written as w
use Rattle.laws_checked.specs.Written.{printed_bytes, WriteBytesUntil, WriteAlike, TurnsWriteAlike, bytes_of}
use Rattle.laws_checked.proofs.Reported.{checked_turns_follow}

lines_behind : (files : List (List ℕ)) (sites : List (Site ℕ)) (a b : List Line)
    → lines_bytes files sites (a ++ b) ≡ lines_bytes files sites a ++ lines_bytes files sites b
lines_behind files sites [] b = refl
lines_behind files sites (line ∷ a) b =
    ap (λ l. line_bytes files sites line ++ l) (lines_behind files sites a b)
    ∙ sym (append_assoc (line_bytes files sites line) (lines_bytes files sites a) (lines_bytes files sites b))

printed_lines : (files : List (List ℕ)) (sites : List (Site ℕ)) (printed : List (List ℕ))
    → lines_bytes files sites (map Printed printed) ≡ printed_bytes printed
printed_lines files sites [] = refl
printed_lines files sites (units ∷ printed) = ap (λ l. with_end (text_bytes units) ++ l) (printed_lines files sites printed)

-- what is written of lines that go on behind printed ones
turn_behind : (files : List (List ℕ)) (sites : List (Site ℕ)) (ls : List Line) (printed : List (List ℕ)) (more : List Line) (end : End)
    → ls ≡ map Printed printed ++ more → turn_bytes files sites ls end ≡ printed_bytes printed ++ turn_bytes files sites more end
turn_behind files sites ls printed more end e =
    ap (λ l. turn_bytes files sites l end) e
    ∙ ap (λ l. l ++ end_bytes files end) (lines_behind files sites (map Printed printed) more)
    ∙ append_assoc (lines_bytes files sites (map Printed printed)) (lines_bytes files sites more) (end_bytes files end)
    ∙ ap (λ l. l ++ turn_bytes files sites more end) (printed_lines files sites printed)

bytes_until : (files : List (List ℕ)) (sites : List (Site ℕ)) (report : Line) (ls checked : List Line) (end checked_end : End)
    → WriteUntil report ls checked
    → WriteBytesUntil (line_bytes files sites report) (turn_bytes files sites ls end) (turn_bytes files sites checked checked_end)
bytes_until files sites report ls checked end checked_end u = record {
  printed = u.printed;
  more = turn_bytes files sites u.more end;
  checked_more = turn_bytes files sites u.checked_more checked_end;
  written = turn_behind files sites ls u.printed u.more end u.output;
  checked_written = turn_behind files sites checked u.printed (report ∷ u.checked_more) checked_end u.checked_output
      ∙ ap (λ l. printed_bytes u.printed ++ l)
      (append_assoc (line_bytes files sites report) (lines_bytes files sites u.checked_more) (end_bytes files checked_end));
}

write_alike : (files : List (List ℕ)) (k : Checking) (production checked : Turn) → Follows k production checked
    → WriteAlike files k.program production checked
write_alike files k production checked (no_check_fails same passed) =
    w.written_same (ap (bytes_of files k.program) same) (ap (λ (t : Turn). turn_finish t.output t.end) same)
write_alike files k production checked (until_report f) =
    w.until_report f.number
    (bytes_until files k.program.sites (report_line k.program f.number) production.output checked.output production.end checked.end
    f.written)

pub turns_write_alike : TurnsWriteAlike
turns_write_alike files k s depth entry isolate = write_alike files k _ _ (checked_turns_follow k s depth entry isolate)
