-- What the kind of an object says of it.
use Rattle.std.proofs.Common.{◌≡◌, Option, Some, None, refl}
use Rattle.dart_ir.specs.Object.{HeapObject, instance, list, text, closure, bound, type_value, send_port, receive_port, cell}
use Rattle.dart_store.specs.Heap.{kind_of, receiver_of, length_of}
use Rattle.evaluation.specs.State.{Setting}
use Rattle.evaluation.specs.Values.{class_in, object_type}
use Rattle.evaluation.specs.Invocation.{callable_in}
use Rattle.evaluation.specs.Variables.{field_total}
use Rattle.machine_frame.specs.Kinds.{kind_class, callable_by, fields_by}

pub class_of_kind : (s : Setting) (o : Option HeapObject) → class_in s.known (object_type s o) ≡ Some (kind_class s (kind_of o))
class_of_kind s (Some (instance c ts fields)) = refl
class_of_kind s (Some (list ts items fixed)) = refl
class_of_kind s (Some (text units)) = refl
class_of_kind s (Some (closure f receiver ts cells)) = refl
class_of_kind s (Some (bound receiver m)) = refl
class_of_kind s (Some (type_value t)) = refl
class_of_kind s (Some (send_port i port)) = refl
class_of_kind s (Some (receive_port port)) = refl
class_of_kind s (Some (cell value counted)) = refl
class_of_kind s None = refl

pub callable_of_kind : (o : Option HeapObject) → callable_in o ≡ callable_by (kind_of o) (receiver_of o)
callable_of_kind (Some (instance c ts fields)) = refl
callable_of_kind (Some (list ts items fixed)) = refl
callable_of_kind (Some (text units)) = refl
callable_of_kind (Some (closure f receiver ts cells)) = refl
callable_of_kind (Some (bound receiver m)) = refl
callable_of_kind (Some (type_value t)) = refl
callable_of_kind (Some (send_port i port)) = refl
callable_of_kind (Some (receive_port port)) = refl
callable_of_kind (Some (cell value counted)) = refl
callable_of_kind None = refl

pub fields_of_kind : (o : Option HeapObject) → field_total o ≡ fields_by (kind_of o) (length_of o)
fields_of_kind (Some (instance c ts fields)) = refl
fields_of_kind (Some (list ts items fixed)) = refl
fields_of_kind (Some (text units)) = refl
fields_of_kind (Some (closure f receiver ts cells)) = refl
fields_of_kind (Some (bound receiver m)) = refl
fields_of_kind (Some (type_value t)) = refl
fields_of_kind (Some (send_port i port)) = refl
fields_of_kind (Some (receive_port port)) = refl
fields_of_kind (Some (cell value counted)) = refl
fields_of_kind None = refl
