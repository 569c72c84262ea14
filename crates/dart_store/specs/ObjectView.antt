-- Which object a view of it shows.
use Rattle.std.specs.Prelude.{map}
use Rattle.dart_ir.specs.Object.{HeapObject, instance, list, text, closure, bound, type_value, send_port, receive_port, cell}
use Rattle.dart_ir.specs.Ty.{ty}
use Rattle.dart_store.specs.declared.view.ObjectView.{ObjectView}
use Rattle.dart_store.specs.declared.view.ObjectView.TheVariants as code

abbrev pub viewed_object : ObjectView → HeapObject
viewed_object (code.Instance class args fields) = instance class.0 (map ty args.now) fields.now
viewed_object (code.List args items fixed) = list (map ty args.now) items.now fixed
viewed_object (code.Text units) = text units.now
viewed_object (code.Closure f receiver args cells) = closure f.0 receiver (map ty args.now) cells.now
viewed_object (code.Bound receiver m) = bound receiver m.0
viewed_object (code.TypeValue t) = type_value (ty t.now)
viewed_object (code.SendPort isolate port) = send_port isolate port
viewed_object (code.ReceivePort port) = receive_port port
viewed_object (code.Cell value counted) = cell value counted
