-- Objects and heads without the capacities of their lists: two of them are equal exactly where they hold the same.
use Rattle.std.specs.Prelude.{ℕ, List, map, Bool}
use Rattle.dart_ir.specs.Ty.{Ty, ty}
use Rattle.dart_ir.specs.declared.value.Value.{Value}
use Rattle.dart_ir.specs.declared.object.Object.{Object}
use Rattle.dart_ir.specs.declared.object.Object.TheVariants as code
use Rattle.dart_ir.specs.declared.object.Head.{Head}
use Rattle.dart_ir.specs.declared.object.Head.TheVariants as head

pub data HeapObject : Type 0 where
  -- the class, its type arguments and the fields
  instance : ℕ → List Ty → List Value → HeapObject
  -- the type argument, the items, and whether the length can't change
  list : List Ty → List Value → Bool → HeapObject
  text : List ℕ → HeapObject
  -- the function, its receiver, its type arguments and its cells
  closure : ℕ → Value → List Ty → List Value → HeapObject
  -- the receiver and the method
  bound : Value → ℕ → HeapObject
  type_value : Ty → HeapObject
  -- the isolate and the port
  send_port : ℕ → ℕ → HeapObject
  receive_port : ℕ → HeapObject
  -- the value, and whether it costs a unit
  cell : Value → Bool → HeapObject

abbrev pub heap_object : Object → HeapObject
heap_object (code.Instance c args fields) = instance c.0 (map ty args.items) fields
heap_object (code.List args items fixed) = list (map ty args.items) items fixed
heap_object (code.Text units) = text units
heap_object (code.Closure f receiver args cells) = closure f.0 receiver (map ty args.items) cells
heap_object (code.Bound receiver m) = bound receiver m.0
heap_object (code.TypeValue t) = type_value (ty t)
heap_object (code.SendPort isolate port) = send_port isolate port
heap_object (code.ReceivePort port) = receive_port port
heap_object (code.Cell value counted) = cell value counted

pub data HeadTy : Type 0 where
  null : HeadTy
  -- the class with its type arguments
  of : ℕ → List Ty → HeadTy
  -- the function with the type arguments for its signature
  function : ℕ → List Ty → HeadTy

abbrev pub head_ty : Head → HeadTy
head_ty head.Null = null
head_ty (head.Of c args) = of c.0 (map ty args.items)
head_ty (head.Function f args) = function f.0 (map ty args.items)
