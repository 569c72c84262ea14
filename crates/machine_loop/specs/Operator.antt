-- Means of proof, which no public contract cites. Natives that answer at once, getters that read, and sites that are passed by (ECMA-408,
-- 9.4 External Functions, 10.2 Getters).
use Rattle.std.specs.Prelude.{◌≡◌, ℕ, [], ◌∷◌, Some, None}
use Rattle.dart_base.specs.declared.place.Place.{Place}
use Rattle.dart_ir.specs.declared.class.Role.TheVariants.{Method, Getter}
use Rattle.dart_ir.specs.declared.native.NativeId.{NativeId}
use Rattle.dart_ir.specs.declared.value.Value.{Value}
use Rattle.dart_store.specs.Heap.{Heap}
use Rattle.core_program.specs.declared.form.Core.{Core}
use Rattle.core_program.specs.Program.{Program}
use Rattle.core_program.specs.View as v
use Rattle.evaluation.specs.Evaluation.{eval}
use Rattle.evaluation.specs.Classes.{member}
use Rattle.evaluation.specs.Externals.{native}
use Rattle.evaluation.specs.State.{State, answer, ends}
use Rattle.machine_lookup.specs.Shapes.{Reading, reading_of_member, operand_site}
use Rattle.machine_frame.specs.declared.around.Around.{Around}
use Rattle.machine_frame.specs.Frames.{mute}
use Rattle.machine_frame.specs.Outside.{setting_of, world_in, IsAdmitted}

-- In each state of that heap the native answers this for the two values at once: it takes no step beyond that of its form, and leaves
-- the state as it is.
abbrev pub AnswersAtOnce : Around → NativeId → Value → Value → Heap → Value → Type 0
AnswersAtOnce a id x y h u =
    (at : Place) (st : State) → st.heap ≡ h → native (setting_of a) at id (x ∷ y ∷ []) st ≡ ends (answer u) st

-- the same of one value
abbrev pub ReadsAtOnce : Around → NativeId → Value → Heap → Value → Type 0
ReadsAtOnce a id x h u =
    (at : Place) (st : State) → st.heap ≡ h → native (setting_of a) at id (x ∷ []) st ≡ ends (answer u) st

-- The name is on objects of a class no method, and a getter that reads so.
abbrev pub IsReading : Program ℕ → ℕ → ℕ → Reading → Type 0
IsReading p k name x =
    (member p (Some k) name Method ≡ None) × (reading_of_member p (member p (Some k) name Getter) ≡ Some x)

-- Where the second form answers a value with so many steps left, the first does with its own.
abbrev pub IsPassed : Around → Core → ℕ → Core → ℕ → Type 0
IsPassed a outer left inner rest =
    (d : ℕ) (st : State) (x : Value) (after : ℕ) → mute (eval (v.core inner) (world_in a d) (record st { left = rest })) ≡ mute (ends (answer x) (record st { left = after }))
    → mute (eval (v.core outer) (world_in a d) (record st { left = left })) ≡ mute (ends (answer x) (record st { left = after }))

-- The value goes on from the site of the operator's parameter.
abbrev pub IsTaken : Around → Heap → ℕ → ℕ → Value → Type 0
IsTaken a h k name v = (n : ℕ) → operand_site (setting_of a).program k name ≡ Some n → IsAdmitted a h n v
