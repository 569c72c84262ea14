-- Objects that are made, and errors that are thrown (ECMA-408, 16.4 Throw, 16.12 Instance Creation).
use Rattle.std.specs.Prelude.{ℕ, ◌+◌, List, [], ◌∷◌, length, Bool, true, false, nat_le}
use Rattle.dart_base.specs.declared.place.Place.{Place}
use Rattle.dart_ir.specs.declared.kind.ThrowKind.{ThrowKind}
use Rattle.dart_ir.specs.declared.kind.ThrowKind.TheVariants.{NullThrownError}
use Rattle.dart_ir.specs.declared.value.Value.{Value}
use Rattle.dart_ir.specs.declared.value.Value.TheVariants.{Null}
use Rattle.dart_ir.specs.Object.{HeapObject, instance, text}
use Rattle.dart_store.specs.Heap.{cost, with_object}
use Rattle.evaluation.specs.State.{answer, throws, ended, out_of_objects, ends, Meaning, Known, Setting}
use Rattle.evaluation.specs.Sequence.{on_answer}
use Rattle.evaluation.specs.Values.{object_value, shown_name, ending_in}

abbrev pub added : Bool → HeapObject → Meaning
added true object st = ends (answer (object_value (length st.heap.objects))) (record st { heap = with_object st.heap object })
added false object st = ends (ended out_of_objects) st

-- the object is added at its cost; where that passes the limit the turn ends
abbrev pub add : HeapObject → Meaning
add object st = added (nat_le (st.heap.used + cost object) st.heap.limit) object st

-- an error of the class, with the message, is made and thrown
abbrev pub throw_new : Known → Place → ThrowKind → Value → Meaning
throw_new k at kind message st =
    on_answer (λ error. ends (throws error at)) (add (instance (k.error_class kind) [] (message ∷ [])) st)

-- the same with a text for a message, which is a string made first
abbrev pub throw_text : Known → Place → ThrowKind → List ℕ → Meaning
throw_text k at kind units st = on_answer (throw_new k at kind) (add (text units) st)

-- an error that tells a name; that of a setter ends in `=`
abbrev pub throw_named : Setting → Place → ThrowKind → ℕ → Bool → Meaning
throw_named s at kind name is_setter = throw_text s.known at kind (ending_in is_setter (shown_name s.names name))

-- A value is thrown; in place of null an error (16.4 Throw).
abbrev pub throw_value : Known → Place → Value → Meaning
throw_value k at Null st = throw_new k at NullThrownError Null st
throw_value k at v st = ends (throws v at) st
