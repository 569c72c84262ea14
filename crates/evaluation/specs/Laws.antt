-- What holds of every evaluation.
use Rattle.std.specs.Prelude.{◌≡◌, ℕ, ◌≤◌, ◌<◌, drop, length, Option, Some, option_map, List, [], ◌∷◌, ◌++◌, Bool, true, false}
use Rattle.dart_base.specs.declared.place.Place.{Place}
use Rattle.dart_ir.specs.declared.class.Role.{Role}
use Rattle.dart_ir.specs.declared.class.Role.TheVariants.{Method}
use Rattle.dart_ir.specs.declared.ending.Line.{Line}
use Rattle.dart_ir.specs.declared.ending.Line.TheVariants.{Printed}
use Rattle.dart_ir.specs.declared.value.Value.{Value}
use Rattle.dart_ir.specs.Object.{HeadTy}
use Rattle.dart_ir.specs.Ty.{Ty}
use Rattle.core_program.specs.Core.{Core, Part, Cases}
use Rattle.core_program.specs.Program.{Program}
use Rattle.core_program.specs.Stripped as stripped
use Rattle.core_program.specs.ProgramView as view
use Rattle.core_program.specs.declared.program.CoreProgram.{CoreProgram}
use Rattle.dart_base.specs.declared.name.Name.{Name}
use Rattle.dart_ir.specs.Classes.{IsValid}
use Rattle.dart_ir.specs.declared.number.MemberId.{MemberId}
use Rattle.dart_type.specs.Member.{IsFirstMember}
use Rattle.dart_store.specs.Heap.{Heap}
use Rattle.evaluation.specs.State.{State, Note, printed, Event, told, tested, reported, Completion, ended, check_failed, Outcome, ends, Given, Natives, Setting}
use Rattle.evaluation.specs.Checks.{Checking, passes, OnFailure, lets_pass, stops, report_line, world, checking_of, setting_of}
use Rattle.evaluation.specs.Sequence.{on_answer}
use Rattle.evaluation.specs.Classes.{member}
use Rattle.evaluation.specs.Arguments.{alone}
use Rattle.evaluation.specs.Invocation.{apply, applied, callable, invocation, missing_from, told as told_missing}
use Rattle.evaluation.specs.Evaluation.{eval, part, branches}
use Rattle.evaluation.specs.Statements.{turn, loop, from_case, after_cases, run_cases}
use Rattle.evaluation.specs.Turn.{Entry, Isolate, begun, started}

abbrev pub state_of : Outcome → State
state_of (ends c st) = st

abbrev pub events_in : Outcome → List Event
events_in (ends c st) = st.events

-- ---- steps

abbrev pub left_of : Outcome → ℕ
left_of o = (state_of o).left

-- No form gives steps back.
abbrev pub StepsNeverComeBack : Type 0
StepsNeverComeBack = (k : Checking) (s : Setting) (how : OnFailure) (depth : ℕ) (form : Core ℕ) (st : State)
    → left_of (eval form (world k s how depth) st) ≤ st.left

-- A loop is a turn, after which it goes on as a loop: its bound on turns is never met.
abbrev pub LoopsUnroll : Type 0
LoopsUnroll = (k : Checking) (s : Setting) (how : OnFailure) (depth n : ℕ) (xs : List ℕ) (condition update body : Part ℕ) (v u w : Value)
    (st : State)
    → loop s n xs (part condition (world k s how depth) v) (part update (world k s how depth) u) (part body (world k s how depth) w) st
    ≡ turn s n xs (part condition (world k s how depth) v) (part update (world k s how depth) u) (part body (world k s how depth) w)
    (loop s n xs (part condition (world k s how depth) v) (part update (world k s how depth) u) (part body (world k s how depth) w)) st

-- A call of a value goes on with what a getter `call` answers as with any value.
abbrev pub CallsUnroll : Type 0
CallsUnroll = (k : Checking) (s : Setting) (how : OnFailure) (depth : ℕ) (at : Place) (v : Value) (g : Given) (st : State)
    → apply (world k s how depth) at v g st
    ≡ applied (world k s how depth) at v g (λ u. apply (world k s how depth) at u g) (callable st.heap v) st

-- A switch that goes on with a case does so as from the first.
abbrev pub SwitchesUnroll : Type 0
SwitchesUnroll = (k : Checking) (s : Setting) (how : OnFailure) (depth : ℕ) (at : Place) (n : ℕ) (cases : Cases ℕ) (i : ℕ) (st : State)
    → from_case s at n (branches cases (world k s how depth)) i st
    ≡ after_cases n (from_case s at n (branches cases (world k s how depth)))
    (run_cases s at (drop i (branches cases (world k s how depth))) st)

-- noSuchMethod that doesn't take an Invocation alone is called for as any member that isn't there.
abbrev pub MissingUnrolls : Type 0
MissingUnrolls = (k : Checking) (s : Setting) (how : OnFailure) (depth : ℕ) (at : Place) (c : Option ℕ) (role : Role) (name : ℕ)
    (this : Value) (g : Given) (st : State)
    → missing_from (world k s how depth) at c role name this g st
    ≡ on_answer (told_missing (world k s how depth) at (member s.program c s.known.no_such_method Method) this
    (λ i. missing_from (world k s how depth) at c Method s.known.no_such_method this (alone i))) (invocation s role name g st)

-- ---- the output

-- the lines that events write
abbrev pub note_lines : Note → List Line
note_lines (printed units) = Printed units ∷ []
note_lines note = []

abbrev pub lines : Program ℕ → List Event → List Line
lines p [] = []
lines p (told note left used ∷ more) = note_lines note ++ lines p more
lines p (tested number head args left used ∷ more) = lines p more
lines p (reported number left used ∷ more) = report_line p number ∷ lines p more

abbrev pub IsWritten : Program ℕ → State → Type 0
IsWritten p st = st.output ≡ lines p st.events

-- What a turn writes is what its events tell.
abbrev pub OutputIsTold : Type 0
OutputIsTold = (k : Checking) (s : Setting) (how : OnFailure) (depth : ℕ) (entry : Entry) (isolate : Isolate)
    → IsWritten k.program (state_of (started (world k s how depth) entry (begun isolate)))

-- ---- checks

-- no check fails
abbrev pub AllPass : Checking → List Event → Type 0
AllPass k [] = Unit {0}
AllPass k (told note left used ∷ more) = AllPass k more
AllPass k (tested number head args left used ∷ more) = (passes k number head args ≡ true) × AllPass k more
AllPass k (reported number left used ∷ more) = AllPass k more

-- Two lists go the same way up to and with the first check that fails, with equal steps and units.
pub record Parted (k : Checking) (a b : List Event) : Type 0 where
  pub before : List Event
  pub number : ℕ
  pub head : HeadTy
  pub args : List Ty
  pub left : ℕ
  pub used : ℕ
  pub more : List Event
  pub other_more : List Event
  pub one : a ≡ before ++ tested number head args left used ∷ more
  pub other : b ≡ before ++ tested number head args left used ∷ other_more
  pub passed : AllPass k before
  pub refused : passes k number head args ≡ false

-- the same outcome, in which no check fails; or the same events up to and with the first that does
pub data Agree (k : Checking) (a b : Outcome) : Type 0 where
  same : a ≡ b → AllPass k (events_in a) → Agree k a b
  apart : Parted k (events_in a) (events_in b) → Agree k a b

-- Each form does in checked mode as in production, event for event, up to and with the first check that fails; with none it ends alike,
-- with the same heap.
abbrev pub ChecksAgree : Type 0
ChecksAgree = (k : Checking) (s : Setting) (how : OnFailure) (depth : ℕ) (form : Core ℕ) (st : State) → st.events ≡ []
    → Agree k (eval form (world k s lets_pass depth) st) (eval form (world k s how depth) st)

-- and so does each turn
abbrev pub TurnsAgree : Type 0
TurnsAgree = (k : Checking) (s : Setting) (how : OnFailure) (depth : ℕ) (entry : Entry) (isolate : Isolate)
    → Agree k (started (world k s lets_pass depth) entry (begun isolate)) (started (world k s how depth) entry (begun isolate))

-- ---- cuts

-- how a turn ends, what happened, and the steps left and the units used
pub record Shown : Type 0 where
  pub end : Completion
  pub events : List Event
  pub left : ℕ
  pub used : ℕ

abbrev pub shown : Outcome → Shown
shown (ends c st) = record { end = c; events = st.events; left = st.left; used = st.heap.used }

abbrev pub cut_or : Bool → ℕ → List Event → ℕ → ℕ → Shown → Shown
cut_or true number before left used further = further
cut_or false number before left used further = record { end = ended (check_failed number); events = before; left = left; used = used }

-- the events up to and with the first check that fails, behind those before it; where none fails, the whole
abbrev pub cut_behind : Checking → List Event → List Event → Shown → Shown
cut_behind k [] before whole = whole
cut_behind k (tested number head args left used ∷ more) before whole =
    cut_or (passes k number head args) number (before ++ tested number head args left used ∷ []) left used
    (cut_behind k more (before ++ tested number head args left used ∷ []) whole)
cut_behind k (event ∷ more) before whole = cut_behind k more (before ++ event ∷ []) whole

abbrev pub cut : Checking → Outcome → Shown
cut k o = cut_behind k (events_in o) [] (shown o)

-- A turn that ends at its first check that fails shows the cut of what production shows.
abbrev pub StopsAreCuts : Type 0
StopsAreCuts = (k : Checking) (s : Setting) (depth : ℕ) (entry : Entry) (isolate : Isolate)
    → shown (started (world k s stops depth) entry (begun isolate)) ≡ cut k (started (world k s lets_pass depth) entry (begun isolate))

-- ---- annotations

-- In production a turn asks nothing of checks.
abbrev pub ProductionChecksNothing : Type 0
ProductionChecksNothing = (k other : Checking) (s : Setting) (depth : ℕ) (entry : Entry) (isolate : Isolate)
    → started (world k s lets_pass depth) entry (begun isolate) ≡ started (world other s lets_pass depth) entry (begun isolate)

-- the turn of a program in production
abbrev pub produced : Program ℕ → List (List ℕ) → (Ty → Ty → Bool) → Natives → ℕ → (Heap → Value → Option ℕ) → ℕ → Entry → Isolate → Outcome
produced p names is_subtype natives number cost depth entry isolate =
    started (world (checking_of p names is_subtype) (setting_of p names is_subtype natives number cost) lets_pass depth) entry
    (begun isolate)

-- A program does in production what it does without what its annotations ask for.
abbrev pub AnnotationsAreNotRead : Type 0
AnnotationsAreNotRead = (p : Program ℕ) (names : List (List ℕ)) (is_subtype : Ty → Ty → Bool) (natives : Natives) (number : ℕ)
    (cost : Heap → Value → Option ℕ) (depth : ℕ) (entry : Entry) (isolate : Isolate)
    → produced (stripped.program p) names is_subtype natives number cost depth entry isolate
    ≡ produced p names is_subtype natives number cost depth entry isolate

-- ---- lookup

-- The member that is looked up on a class is the first on its chain, over a valid table of classes.
abbrev pub MembersAreFirst : Type 0
MembersAreFirst = (x : CoreProgram) (name : Name) (role : Role) → IsValid x.classes → (c : ℕ) → c < length x.classes.classes.items
    → (found : Option MemberId) → IsFirstMember x.classes c name role found
    → member (stripped.program (view.program x)) (Some c) name.0 role ≡ option_map (λ (m : MemberId). m.0) found
