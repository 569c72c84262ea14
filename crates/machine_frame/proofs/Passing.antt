-- What passes a form that waits for an answer.
use Rattle.std.proofs.Common.{◌≡◌, ◌≢◌, ◌+◌, Bool, true, false, nat_le, [], ◌∷◌, length, refl, ap}
use Rattle.dart_base.specs.declared.place.Place.{Place}
use Rattle.dart_ir.specs.declared.value.Value.{Value}
use Rattle.evaluation.specs.State.{State, Known, Completion, answer, jumps, returns, throws, ended, ends, Meaning}
use Rattle.evaluation.specs.Sequence.{on_answer}
use Rattle.dart_ir.specs.declared.kind.ThrowKind.{ThrowKind}
use Rattle.dart_ir.specs.Object.{HeapObject, instance}
use Rattle.dart_store.specs.Heap.{cost, with_object}
use Rattle.evaluation.specs.Objects.{added, throw_new}
use Rattle.evaluation.specs.Values.{in_prelude, object_value}
use Rattle.evaluation.specs.Invocation.{leaving, moved}
use Rattle.evaluation.specs.Statements.{then_ends}
use Rattle.machine_frame.specs.declared.run.Exit.{Exit}
use Rattle.machine_frame.specs.declared.run.Exit.TheVariants as exit
use Rattle.machine_frame.specs.Frames.{completed, moved_to}

pub passes_answer : (x : Exit) (go : Value → Meaning) (v : Value) (st : State) → x ≢ exit.Answered → on_answer go (ends (completed x v) st) ≡ ends (completed x v) st
passes_answer exit.Answered go v st h = absurd (h refl)
passes_answer (exit.Jumps way n) go v st h = refl
passes_answer exit.Returns go v st h = refl
passes_answer (exit.Throws place) go v st h = refl
passes_answer (exit.Over limit) go v st h = refl

pub passes_ending : (x : Exit) (c : Completion) (v : Value) (st : State) → x ≢ exit.Answered → then_ends c (ends (completed x v) st) ≡ ends (completed x v) st
passes_ending exit.Answered c v st h = absurd (h refl)
passes_ending (exit.Jumps way n) c v st h = refl
passes_ending exit.Returns c v st h = refl
passes_ending (exit.Throws place) c v st h = refl
passes_ending (exit.Over limit) c v st h = refl

pub leaving_is : (at : Place) (c : Completion) (st : State) → leaving at (ends c st) ≡ ends (moved_to at c) st
leaving_is at (answer v) st = refl
leaving_is at (jumps way n) st = refl
leaving_is at (returns v) st = refl
leaving_is at (throws v place) st = refl
leaving_is at (ended e) st = refl

stays_at : (b : Bool) (at : Place) → moved b b at at ≡ at
stays_at true at = refl
stays_at false at = refl

leaving_added : (b : Bool) (object : HeapObject) (at : Place) (st : State)
    → leaving at (on_answer (λ error. ends (throws error at)) (added b object st)) ≡ on_answer (λ error. ends (throws error at)) (added b object st)
leaving_added true object at st = ap (λ place. ends (throws (object_value (length st.heap.objects)) place) (record st { heap = with_object st.heap object })) (stays_at (in_prelude at) at)
leaving_added false object at st = refl

-- an error that is thrown at the place of a call
pub leaving_own : (k : Known) (at : Place) (kind : ThrowKind) (message : Value) (st : State)
    → leaving at (throw_new k at kind message st) ≡ throw_new k at kind message st
leaving_own k at kind message st =
    let error = instance (k.error_class kind) [] (message ∷ []) in
    leaving_added (nat_le (st.heap.used + cost error) st.heap.limit) error at st
