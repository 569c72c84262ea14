-- What the kind of an object says of it.
use Rattle.std.specs.Prelude.{ℕ}
use Rattle.dart_ir.specs.declared.value.Value.{Value}
use Rattle.dart_store.specs.declared.store.Kind.{Kind}
use Rattle.dart_store.specs.declared.store.Kind.TheVariants as kind
use Rattle.evaluation.specs.State.{Setting}
use Rattle.evaluation.specs.Invocation.{Callable, a_closure, a_method, an_object}

-- the class whose members an object has
abbrev pub kind_class : Setting → Kind → ℕ
kind_class s (kind.Instance c) = c.0
kind_class s (kind.List fixed) = s.known.list_class
kind_class s kind.Text = s.known.string_class
kind_class s (kind.Closure f) = s.program.function_class
kind_class s (kind.Bound m) = s.program.function_class
kind_class s kind.TypeValue = s.known.type_class
kind_class s (kind.SendPort isolate port) = s.known.send_port_class
kind_class s (kind.ReceivePort port) = s.known.receive_port_class
kind_class s kind.Cell = s.known.null_class
kind_class s kind.Absent = s.known.null_class

-- an object as what is called, where it is bound to this receiver
abbrev pub callable_by : Kind → Value → Callable
callable_by (kind.Closure f) receiver = a_closure f.0 receiver
callable_by (kind.Bound m) receiver = a_method m.0 receiver
callable_by other receiver = an_object

-- how many fields an object has that is so long
abbrev pub fields_by : Kind → ℕ → ℕ
fields_by kind.Text length = 0
fields_by other length = length
