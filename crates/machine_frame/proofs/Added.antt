-- Objects that are added.
use Rattle.std.proofs.Common.{◌≡◌, ℕ, ◌+◌, ◌≤◌, ◌<◌, length, Option, Some, None, refl, sym, ap, ◌∙◌}
use Rattle.std.proofs.lemmas.Bool.{le-leb, lt-leb}
use Rattle.dart_base.specs.declared.place.Place.{Place}
use Rattle.dart_ir.specs.declared.number.Ref.{Ref}
use Rattle.dart_ir.specs.declared.value.Value.{Value}
use Rattle.dart_ir.specs.declared.value.Value.TheVariants.{At}
use Rattle.dart_ir.specs.Object.{HeapObject}
use Rattle.dart_store.specs.Heap.{Heap, cost, with_object}
use Rattle.evaluation.specs.State.{State, answer, throws, ended, out_of_objects, ends}
use Rattle.evaluation.specs.Sequence.{on_answer}
use Rattle.evaluation.specs.Values.{object_value}
use Rattle.evaluation.specs.Objects.{added, add}
use Rattle.machine_frame.specs.Frames.{value_or_full, thrown_or_full}

number_of : (r : Ref) (n : ℕ) → r.0 ≡ n → object_value n ≡ At r
number_of r n e = ap object_value (sym e)

pub adds : (object : HeapObject) (st : State) (r : Ref) (h : Heap) → st.heap.used + cost object ≤ st.heap.limit → r.0 ≡ length st.heap.objects
    → h ≡ with_object st.heap object → add object st ≡ ends (answer (At r)) (record st { heap = h })
adds object st r h room number is =
    ap (λ b. added b object st) (le-leb (st.heap.used + cost object) st.heap.limit room)
    ∙ ap (λ v. ends (answer v) (record st { heap = with_object st.heap object })) (number_of r (length st.heap.objects) number)
    ∙ ap (λ h. ends (answer (At r)) (record st { heap = h })) (sym is)

pub adds_not : (object : HeapObject) (st : State) → st.heap.limit < st.heap.used + cost object → add object st ≡ ends (ended out_of_objects) st
adds_not object st over = ap (λ b. added b object st) (lt-leb (st.heap.used + cost object) st.heap.limit over)

pub thrown_made : (made : Option Value) (at : Place) (st : State) → on_answer (λ error. ends (throws error at)) (ends (value_or_full made) st) ≡ ends (thrown_or_full made at) st
thrown_made None at st = refl
thrown_made (Some x) at st = refl
