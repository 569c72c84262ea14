-- Statements (ECMA-408, 17 Statements).
use Rattle.std.specs.Prelude.{ℕ, zero, suc, List, [], ◌∷◌, drop, Bool, true, false, nat_eq, Option, Some, None, cond}
use Rattle.dart_base.specs.declared.place.Place.{Place}
use Rattle.dart_ir.specs.declared.kind.ThrowKind.TheVariants.{FallThroughError}
use Rattle.dart_ir.specs.declared.value.Value.{Value}
use Rattle.dart_ir.specs.declared.value.Value.TheVariants.{Null}
use Rattle.dart_ir.specs.Object.{instance}
use Rattle.dart_ir.specs.Ty.{Ty}
use Rattle.dart_store.specs.Heap.{Heap}
use Rattle.core_program.specs.declared.form.Way.{Way}
use Rattle.core_program.specs.declared.form.Way.TheVariants as way
use Rattle.evaluation.specs.State.{Activation, Thrown, Completion, answer, jumps, throws, ended, out_of_steps, Outcome, ends, Meaning, Setting}
use Rattle.evaluation.specs.Sequence.{on_answer, entering, chosen, branch}
use Rattle.evaluation.specs.Values.{is_same}
use Rattle.evaluation.specs.Objects.{add, throw_new}
use Rattle.evaluation.specs.Variables.{declare, copies}
use Rattle.evaluation.specs.Types.{with_type, is_of}

abbrev pub done : Meaning
done st = ends (answer Null) st

-- ---- labels (17.13 Labels, 17.14 Break, 17.15 Continue)

abbrev pub left_by : Bool → Way → ℕ → Meaning
left_by true way.Break n st = ends (answer Null) st
left_by here w n st = ends (jumps w n) st

-- a statement with a label is left by a break to it
abbrev pub labelled : ℕ → Outcome → Outcome
labelled n (ends (jumps w m) st) = left_by (nat_eq m n) w m st
labelled n (ends c st) = ends c st

-- ---- loops (17.6 For, 17.7 While, 17.8 Do)

abbrev pub loop_jump : Bool → Way → ℕ → Meaning → Meaning
loop_jump true way.Break n next st = ends (answer Null) st
loop_jump true way.Continue n next st = next st
loop_jump here w n next st = ends (jumps w n) st

-- The end of a body: the loop goes on, is left, or is passed by.
abbrev pub after_body : ℕ → Meaning → Outcome → Outcome
after_body n next (ends (answer v) st) = next st
after_body n next (ends (jumps w m) st) = loop_jump (nat_eq m n) w m next st
after_body n next (ends c st) = ends c st

-- The end of an update: the loop goes on, or a break of it leaves it, as where the condition of a `do` fails.
abbrev pub after_update : ℕ → Meaning → Outcome → Outcome
after_update n next (ends (answer v) st) = next st
after_update n next (ends (jumps w m) st) = left_by (nat_eq m n) w m st
after_update n next (ends c st) = ends c st

-- fresh copies of the variables, the update, and what comes next
abbrev pub going_on : Setting → ℕ → List ℕ → Meaning → Meaning → Meaning
going_on s n xs update next st = on_answer (λ _ st. after_update n next (update st)) (copies s xs st)

abbrev pub body_of_turn : Setting → ℕ → List ℕ → Meaning → Meaning → Meaning → Meaning
body_of_turn s n xs update body next st = after_body n (going_on s n xs update next) (body st)

-- One turn: a step, the condition, the body where it holds, and what comes next.
abbrev pub turn : Setting → ℕ → List ℕ → Meaning → Meaning → Meaning → Meaning → Meaning
turn s n xs condition update body next =
    entering (λ st. on_answer (λ v. branch v (body_of_turn s n xs update body next) done) (condition st))

abbrev pub turns : ℕ → Setting → ℕ → List ℕ → Meaning → Meaning → Meaning → Meaning
turns zero s n xs condition update body st = ends (ended out_of_steps) st
turns (suc k) s n xs condition update body st =
    turn s n xs condition update body (turns k s n xs condition update body) st

-- Each turn takes a step, so there are no more turns than steps are left.
abbrev pub loop : Setting → ℕ → List ℕ → Meaning → Meaning → Meaning → Meaning
loop s n xs condition update body st = turns st.left s n xs condition update body st

-- ---- try (17.11 Try, 17.10 Rethrow)

pub data ClauseTest : Type 0 where
  takes_all : ClauseTest
  takes : Ty → ClauseTest
  malformed : Meaning → ClauseTest

-- what a handler takes, the variables of what was thrown and of the stack trace, and its body
pub record Clause : Type 0 where
  pub test : ClauseTest
  pub exception : Option ℕ
  pub trace : Option ℕ
  pub body : Meaning

abbrev pub declare_if : Setting → Option ℕ → Value → Meaning
declare_if s None v st = ends (answer v) st
declare_if s (Some x) v st = declare s x v st

-- the stack trace, which is made only where a variable takes it
abbrev pub trace_for : Setting → Option ℕ → Meaning
trace_for s None st = ends (answer Null) st
trace_for s (Some x) st = add (instance s.known.trace_class [] []) st

abbrev pub with_caught : Activation → Option Thrown → Activation
with_caught a thrown = record a { caught = thrown }

-- what was caught around is at hand again
abbrev pub forgetting : Option Thrown → Outcome → Outcome
forgetting around (ends c st) = ends c (record st { activation = with_caught st.activation around })

-- the trace, then the variables in order, then the body, in which what was caught may be thrown again
abbrev pub handle : Setting → Clause → Value → Meaning
handle s c v st =
    on_answer (λ trace st. on_answer (λ _ st. on_answer (λ _. c.body) (declare_if s c.trace trace st))
    (declare_if s c.exception v st)) (trace_for s c.trace st)

abbrev pub handling : Setting → Clause → Value → Place → Meaning
handling s c v place st =
    forgetting st.activation.caught (handle s c v
    (record st { activation = with_caught st.activation (Some (record { value = v; place = place })) }))

-- the handler takes it, or the next ones are asked
abbrev pub tried : Setting → ClauseTest → Value → Meaning → Meaning → Meaning
tried s takes_all v here further st = here st
tried s (takes t) v here further st = with_type s t (λ t st. chosen (is_of s st.heap v t) here further st) st
tried s (malformed form) v here further st = on_answer (λ _. further) (form st)

abbrev pub handled : Setting → List Clause → Value → Place → Meaning
handled s [] v place st = ends (throws v place) st
handled s (c ∷ cs) v place st = tried s c.test v (handling s c v place) (handled s cs v place) st

-- the first handler that takes what the body throws
abbrev pub caught_by : Setting → List Clause → Outcome → Outcome
caught_by s cs (ends (throws v place) st) = handled s cs v place st
caught_by s cs (ends c st) = ends c st

-- the final part runs whatever the end; where it is done, that end goes on
abbrev pub then_ends : Completion → Outcome → Outcome
then_ends c (ends (answer v) st) = ends c st
then_ends c (ends d st) = ends d st

abbrev pub finally : Meaning → Outcome → Outcome
finally last (ends (ended e) st) = ends (ended e) st
finally last (ends c st) = then_ends c (last st)

-- what the handler around has caught is thrown again, with the place of the first throw
abbrev pub thrown_again : Option Thrown → Meaning
thrown_again None st = ends (answer Null) st
thrown_again (Some t) st = ends (throws t.value t.place) st

abbrev pub rethrow : Meaning
rethrow st = thrown_again st.activation.caught st

-- ---- switch (17.9 Switch)

-- its value, none for the default, whether it has no statements, and these
pub record Branch : Type 0 where
  pub value : Option Value
  pub is_empty : Bool
  pub body : Meaning

abbrev pub has_value : Setting → Heap → Value → Option Value → Bool
has_value s h v None = false
has_value s h v (Some u) = is_same s h v u

abbrev pub after_one : Option ℕ → Option ℕ
after_one None = None
after_one (Some i) = Some (suc i)

-- the first case whose value is v, counted from 0
abbrev pub case_with : Setting → Heap → Value → List Branch → Option ℕ
case_with s h v [] = None
case_with s h v (b ∷ bs) = cond (has_value s h v b.value) (Some 0) (after_one (case_with s h v bs))

abbrev pub default_or : Option Value → ℕ → ℕ
default_or None i = 0
default_or (Some v) i = suc i

-- the default, or past the last case where there is none
abbrev pub default_case : List Branch → ℕ
default_case [] = 0
default_case (b ∷ bs) = default_or b.value (default_case bs)

abbrev pub or_default : Option ℕ → List Branch → ℕ
or_default (Some i) bs = i
or_default None bs = default_case bs

-- the case that a value leads to
abbrev pub case_for : Setting → Heap → Value → List Branch → ℕ
case_for s h v bs = or_default (case_with s h v bs) bs

abbrev pub falls : Setting → Place → Bool → Meaning → Meaning
falls s at true next = next
falls s at false next = throw_new s.known at FallThroughError Null

abbrev pub falls_to : Setting → Place → Bool → List Branch → Meaning → Meaning
falls_to s at is_empty [] next st = ends (answer Null) st
falls_to s at is_empty (b ∷ bs) next st = falls s at is_empty next st

-- The statements of the first case; the next ones' follow where it has none. One that has some and isn't last must end in a jump.
abbrev pub run_cases : Setting → Place → List Branch → Meaning
run_cases s at [] st = ends (answer Null) st
run_cases s at (b ∷ bs) st = on_answer (λ _. falls_to s at b.is_empty bs (run_cases s at bs)) (b.body st)

abbrev pub switch_jump : Bool → Way → ℕ → (ℕ → Meaning) → Meaning
switch_jump true way.Break n again st = ends (answer Null) st
switch_jump true (way.Case i) n again st = again i st
switch_jump here w n again st = ends (jumps w n) st

-- A break leaves the switch, and a continue goes on with one of its cases.
abbrev pub after_cases : ℕ → (ℕ → Meaning) → Outcome → Outcome
after_cases n again (ends (jumps w m) st) = switch_jump (nat_eq m n) w m again st
after_cases n again (ends c st) = ends c st

abbrev pub cases_within : ℕ → Setting → Place → ℕ → List Branch → ℕ → Meaning
cases_within zero s at n all i st = ends (ended out_of_steps) (record st { left = 0 })
cases_within (suc k) s at n all i st =
    after_cases n (cases_within k s at n all) (run_cases s at (drop i all) st)

-- Case i and what follows it. The statements of a case take a step, so no more of them are gone on with than steps are left.
abbrev pub from_case : Setting → Place → ℕ → List Branch → ℕ → Meaning
from_case s at n all i st = cases_within (suc st.left) s at n all i st

abbrev pub switch : Setting → Place → ℕ → List Branch → Value → Meaning
switch s at n all v st = from_case s at n all (case_for s st.heap v all) st
