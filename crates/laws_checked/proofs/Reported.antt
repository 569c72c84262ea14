-- In checked mode the first check that fails is reported at once.
use Rattle.std.proofs.Common.{◌≡◌, ℕ, List, [], ◌∷◌, ◌++◌, map, refl, sym, ap, ◌∙◌, subst, append_assoc}
use Rattle.dart_ir.specs.declared.ending.Line.{Line}
use Rattle.dart_ir.specs.declared.ending.Line.TheVariants.{Printed, Report}
use Rattle.dart_ir.specs.declared.kind.ThrowKind.TheVariants.{TypeError}
use Rattle.dart_ir.specs.declared.value.Value.{Value}
use Rattle.dart_ir.specs.declared.value.Value.TheVariants.{Null}
use Rattle.dart_ir.specs.Object.{HeadTy}
use Rattle.dart_ir.specs.Ty.{Ty}
use Rattle.core_program.specs.Program.{Program}
use Rattle.evaluation.specs.State.{State, Event, told, tested, reported, with_event, with_line, Outcome, ends, Setting}
use Rattle.evaluation.specs.Classes.{site_at}
use Rattle.evaluation.specs.Objects.{throw_new}
use Rattle.evaluation.specs.Checks.{Checking, lets_pass, reports, site_place, report_line, fails, world}
use Rattle.evaluation.specs.Turn.{begun, started, turn_of}
use Rattle.evaluation.specs.Laws.{state_of, events_in, note_lines, lines, IsWritten}
use Rattle.evaluation.proofs.Logic.{Clear, throw_new_rel}
use Rattle.evaluation.proofs.Kept.{Keeps, kept_logic, grown}
use Rattle.evaluation.proofs.Written.{output_is_told}
use Rattle.evaluation.proofs.Agreed.{Failure, event_of, Split, alike, parted, turn_follows}
use Rattle.laws_checked.specs.Laws.{NoReport, Follows, no_check_fails, until_report, CheckedTurnsFollow}
use Rattle.laws_checked.proofs.Silent.{production_reports_nothing}

-- ---- events

record Reported (before : List Event) (e : Failure) (o : Outcome) : Type 0 where
  more : List Event
  is : events_in o ≡ before ++ event_of e ∷ reported e.number e.left e.used ∷ more

reported_keeps : (f : Outcome → Outcome) → Clear f → Keeps f → (before : List Event) (e : Failure) (o : Outcome) → Reported before e o
    → Reported before e (f o)
reported_keeps f c q before e (ends x st) g =
    let more = grown (λ st. f (ends x st)) (q x) st in
    record {
      more = g.more ++ more.more;
      is = more.is ∙ ap (λ l. l ++ more.more) g.is
          ∙ append_assoc before (event_of e ∷ reported e.number e.left e.used ∷ g.more) more.more;
    }

reported_first : (k : Checking) (s : Setting) (n : ℕ) (head : HeadTy) (args : List Ty) (v : Value) (st : State) →
    Reported st.events (record { number = n; head = head; args = args; left = st.left; used = st.heap.used })
    (fails k s reports n v (with_event st (tested n head args)))
reported_first k s n head args v st =
    let at = site_place (site_at k.program n) in
    let here = with_event (with_line (with_event st (tested n head args)) (report_line k.program n)) (reported n) in
    let test = tested n head args st.left st.heap.used in
    let report = reported n st.left st.heap.used in
    let more = grown (throw_new s.known at TypeError Null) (throw_new_rel kept_logic s.known at TypeError Null) here in
    record {
      more = more.more;
      is = more.is ∙ append_assoc (st.events ++ test ∷ []) (report ∷ []) more.more
          ∙ append_assoc st.events (test ∷ []) (report ∷ more.more);
    }

-- ---- lines

lines_append : (p : Program ℕ) (a b : List Event) → lines p (a ++ b) ≡ lines p a ++ lines p b
lines_append p [] b = refl
lines_append p (told note l u ∷ a) b = ap (λ x. note_lines note ++ x) (lines_append p a b)
    ∙ sym (append_assoc (note_lines note) (lines p a) (lines p b))
lines_append p (tested n head args l u ∷ a) b = lines_append p a b
lines_append p (reported n l u ∷ a) b = ap (λ x. report_line p n ∷ x) (lines_append p a b)

front_silent : (a b : List Line) → NoReport (a ++ b) → NoReport a
front_silent [] b h = tt
front_silent (Printed units ∷ a) b h = front_silent a b h
front_silent (Report site kind ∷ a) b h = h

-- lines with no report are what was printed
printed_of : (ls : List Line) → NoReport ls → (printed : List (List ℕ)) × (ls ≡ map Printed printed)
printed_of [] h = ([], refl)
printed_of (Printed units ∷ ls) h =
    let (printed, is) = printed_of ls h in
    (units ∷ printed, ap (λ l. Printed units ∷ l) is)
printed_of (Report site kind ∷ ls) h = absurd h

-- what is written of events that go on behind some
told_behind : (p : Program ℕ) (st : State) (a b : List Event) → IsWritten p st → st.events ≡ a ++ b → st.output ≡ lines p a ++ lines p b
told_behind p st a b w e = w ∙ ap (lines p) e ∙ lines_append p a b

-- ---- turns

follows : (k : Checking) (s : Setting) (a b : Outcome) → IsWritten k.program (state_of a) → IsWritten k.program (state_of b)
    → NoReport (turn_of s a).output → Split k Reported reported_keeps a b → Follows k (turn_of s a) (turn_of s b)
follows k s (ends c st) b w w' q (alike e h) = no_check_fails (ap (turn_of s) (sym e)) h
follows k s (ends c st) (ends d st') w w' q (parted before x more e h r g) =
    let output = told_behind k.program st before (event_of x ∷ more) w e in
    let (printed, is) = printed_of (lines k.program before)
    (front_silent (lines k.program before) (lines k.program more) (subst NoReport output q)) in
    until_report (record {
      before = before;
      number = x.number;
      head = x.head;
      args = x.args;
      left = x.left;
      used = x.used;
      more = more;
      checked_more = g.more;
      passed = h;
      refused = r;
      events = e;
      checked_events = g.is;
      written = record {
        printed = printed;
        more = lines k.program more;
        checked_more = lines k.program g.more;
        output = output ∙ ap (λ l. l ++ lines k.program more) is;
        checked_output = told_behind k.program st' before (event_of x ∷ reported x.number x.left x.used ∷ g.more) w' g.is
            ∙ ap (λ l. l ++ report_line k.program x.number ∷ lines k.program g.more) is;
      };
    })

pub checked_turns_follow : CheckedTurnsFollow
checked_turns_follow k s depth entry isolate =
    follows k s (started (world k s lets_pass depth) entry (begun isolate)) (started (world k s reports depth) entry (begun isolate))
    (output_is_told k s lets_pass depth entry isolate) (output_is_told k s reports depth entry isolate)
    (production_reports_nothing k s depth entry isolate)
    ((turn_follows k Reported reported_keeps s reports (reported_first k s) depth entry).goes (begun isolate) tt)
