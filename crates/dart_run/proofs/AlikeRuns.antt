-- Programs that are alike once stripped have one run in production.
use Rattle.std.proofs.Common.{◌≡◌, ◌∙◌, ℕ, suc, List, [], ◌∷◌, ◌++◌, map, sym, ap, refl, cond, nat_eq, Option, Some, None}
use Rattle.std.specs.Prelude.{◌&&◌, bytes_eq, codes, option_map}
use Rattle.dart_ir.specs.declared.ending.Line.{Line}
use Rattle.dart_ir.specs.declared.ending.Line.TheVariants.{Printed, Report}
use Rattle.core_program.specs.declared.program.CoreProgram.{CoreProgram}
use Rattle.core_program.specs.Alike as alike
use Rattle.core_program.specs.Program.{Class, Program, Site}
use Rattle.core_program.specs.ProgramView.{program}
use Rattle.evaluation.specs.State.{Known, Setting}
use Rattle.evaluation.specs.Values.{name_text}
use Rattle.evaluation.specs.Prelude.{class_number_in, error_text, known, name_number}
use Rattle.evaluation.specs.Checks.{Checking, lets_pass, checking_of, world}
use Rattle.evaluation.specs.Turn.{Turn, Isolate, main, new_isolate, turn, turn_of}
use Rattle.evaluation.proofs.Unread.{production_checks_nothing}
use Rattle.turn_text.specs.Finish.{turn_finish}
use Rattle.turn_text.specs.Transcript.{end_bytes, lines_bytes, text_bytes, with_end}
use Rattle.laws_checked.specs.Laws.{NoReport}
use Rattle.laws_checked.proofs.Silent.{production_reports_nothing}
use Rattle.machine_frame.specs.Outside.{setting_of}
use Rattle.machine_turn.specs.Turn.{quiet}
use Rattle.machine_turn.specs.Produced.{bare, main_turn, setting_with}
use Rattle.machine_turn.proofs.Produced.{isolate_bare}
use Rattle.dart_run.specs.Written.{written}
use Rattle.dart_run.specs.Laws.{AlikeRunsAreOne}
use Rattle.dart_run.proofs.OneRun.{setting_same}

-- ---- the numbers of the prelude

class_number_bare : (names : List (List ℕ)) (unit : ℕ) (text : List ℕ) (cs : List (Class ℕ))
    → class_number_in names unit text (map alike.class cs) ≡ class_number_in names unit text cs
class_number_bare names unit text [] = refl
class_number_bare names unit text (c ∷ cs) =
    ap (λ n. cond (nat_eq c.place.unit unit && bytes_eq (name_text names c.name) text) 0 (suc n)) (class_number_bare names unit text cs)

module _ (q : Program ℕ) (names : List (List ℕ)) where
  number : (unit : ℕ) (text : List ℕ) → class_number_in names unit text (map alike.class q.classes) ≡ class_number_in names unit text q.classes
  number unit text = class_number_bare names unit text q.classes

  known_bare : known (bare q) names ≡ known q names
  known_bare = λ i. record {
    null_class = number 1 (codes "Null") i;
    bool_class = number 1 (codes "bool") i;
    int_class = number 1 (codes "int") i;
    string_class = number 1 (codes "String") i;
    list_class = number 1 (codes "List") i;
    type_class = number 1 (codes "Type") i;
    invocation_class = number 1 (codes "Invocation") i;
    trace_class = number 1 (codes "StackTrace") i;
    send_port_class = number 2 (codes "SendPort") i;
    receive_port_class = number 2 (codes "ReceivePort") i;
    error_class = λ thrown. number 1 (error_text thrown) i;
    call = name_number names (codes "call");
    equals = name_number names (codes "==");
    no_such_method = name_number names (codes "noSuchMethod");
  }

known_alike : (p q : Program ℕ) (names : List (List ℕ)) → bare p ≡ bare q → known p names ≡ known q names
known_alike p q names e = sym (known_bare p names) ∙ ap (λ x. known x names) e ∙ known_bare q names

-- ---- turns

module _ (s : Setting) (p q : Program ℕ) (names : List (List ℕ)) (depth : ℕ) (e : bare p ≡ bare q) where
  abbrev P : Checking
  P = checking_of p names s.is_subtype

  abbrev Q : Checking
  Q = checking_of q names s.is_subtype

  seen_same : setting_with s p names ≡ setting_with s q names
  seen_same =
      ap (λ x. record (setting_with s p names) { program = x }) e
      ∙ ap (λ (k : Known). record (setting_with s p names) { program = bare q; known = k }) (known_alike p q names e)

  turn_same : (i : Isolate) → main_turn s p names lets_pass depth i ≡ main_turn s q names lets_pass depth i
  turn_same i =
      ap (λ x. quiet (turn (world P x lets_pass depth) (main p.main) i)) seen_same
      ∙ ap (λ o. quiet (turn_of (setting_with s q names) o)) (production_checks_nothing P Q (setting_with s q names) depth (main p.main) i)
      ∙ ap (λ (x : Program ℕ). quiet (turn (world Q (setting_with s q names) lets_pass depth) (main x.main) i)) e

-- ---- what is written

sites_unread : (files : List (List ℕ)) (sites others : List (Site ℕ)) (ls : List Line) → NoReport ls
    → lines_bytes files sites ls ≡ lines_bytes files others ls
sites_unread files sites others [] h = refl
sites_unread files sites others (Printed units ∷ ls) h = ap (λ l. with_end (text_bytes units) ++ l) (sites_unread files sites others ls h)
sites_unread files sites others (Report site kind ∷ ls) h = absurd h

written_turn : (files : List (List ℕ)) (sites others : List (Site ℕ)) (t : Turn) → NoReport t.output
    → written files sites (Some t) ≡ written files others (Some t)
written_turn files sites others t h =
    ap (λ l. record { bytes = l ++ end_bytes files t.end; finish = turn_finish t.output t.end }) (sites_unread files sites others t.output h)

written_same : (files : List (List ℕ)) (sites others : List (Site ℕ)) (s : Setting) (q : Program ℕ) (names : List (List ℕ)) (depth : ℕ)
    (o : Option Isolate) → written files sites (option_map (main_turn s q names lets_pass depth) o)
    ≡ written files others (option_map (main_turn s q names lets_pass depth) o)
written_same files sites others s q names depth None = refl
written_same files sites others s q names depth (Some i) =
    written_turn files sites others (main_turn s q names lets_pass depth i)
    (production_reports_nothing (checking_of q names s.is_subtype) (setting_with s q names) depth (main q.main) i)

-- ---- runs

pub alike_runs_are_one : AlikeRunsAreOne
alike_runs_are_one x y b made other a r s =
    let e = a.alike in
    let p = program x in
    let q = program y in
    let mine = setting_of r.is_run.around in
    let knowns = known_alike p q x.names e ∙ ap (known q) a.names in
    let settings = setting_same r.is_run.around s.is_run.around (r.is_run.bare.program ∙ e ∙ sym s.is_run.bare.program)
    (r.is_run.bare.names_same ∙ a.names ∙ sym s.is_run.bare.names_same) (r.is_run.bare.known_same ∙ knowns ∙ sym s.is_run.bare.known_same)
    (r.is_run.first ∙ sym s.is_run.first) in
    let isolates = sym (isolate_bare p b) ∙ ap (λ z. new_isolate z b) e ∙ isolate_bare q b in
    r.is_written
    ∙ ap (written p.units p.sites) r.is_run.is_turn
    ∙ written_same p.units p.sites q.sites mine p x.names b.depth (new_isolate p b)
    ∙ ap (λ (z : Program ℕ). written z.units q.sites (option_map (main_turn mine p x.names lets_pass b.depth) (new_isolate p b))) e
    ∙ (λ i. written q.units q.sites (option_map (λ j. turn_same mine p q x.names b.depth e j i) (isolates i)))
    ∙ (λ i. written q.units q.sites (option_map (main_turn (settings i) q (a.names i) lets_pass b.depth) (new_isolate q b)))
    ∙ ap (written q.units q.sites) (sym s.is_run.is_turn)
    ∙ sym s.is_written
