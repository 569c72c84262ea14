-- The natives of a run: the steps that each takes, and what it leaves.
use Rattle.std.specs.Prelude.{ℕ, List, map}
use Rattle.dart_ir.specs.declared.native.NativeId.{NativeId}
use Rattle.dart_ir.specs.declared.value.Value.{Value}
use Rattle.dart_ir.specs.Ty.{Ty}
use Rattle.dart_store.specs.Heap.{Heap}
use Rattle.native_base.specs.Plan.{Outcome, done, full as no_room}
use Rattle.native_object.specs.declared.known.KnownClasses.{KnownClasses}
use Rattle.native_object.specs.Shown as shown
use Rattle.dart_native.specs.Native as n
use Rattle.evaluation.specs.State.{NativeEnd, gives, full, Natives}
use Rattle.machine_frame.specs.declared.around.Around.{Around}

-- the prelude's classes that natives know
abbrev pub classes_of : Around → KnownClasses
classes_of a = record {
  null = a.setup.now.known.null_class;
  boolean = a.setup.now.known.bool_class;
  integer = a.setup.now.known.int_class;
  string = a.setup.now.known.string_class;
  list = a.setup.now.known.list_class;
  function = a.program.now.classes.function;
  type_class = a.setup.now.known.type_class;
  send_port = a.setup.now.known.send_port_class;
  receive_port = a.setup.now.known.receive_port_class;
}

-- what natives read of the program
abbrev pub read_of : Around → shown.Around
read_of a = record {
  literals = a.program.now.literals.items;
  names = a.program.now.names;
  class_names = map shown.name_number a.program.now.classes.classes.items;
  known = classes_of a;
}

abbrev pub end_of : Outcome → NativeEnd
end_of (done answer h) = gives answer h
end_of no_room = full

unfoldable pub native_steps : Around → NativeId → List Value → Heap → ℕ
native_steps a id vs h = n.steps (read_of a) id vs h

unfoldable pub native_end : Around → NativeId → List Ty → List Value → Heap → NativeEnd
native_end a id ts vs h = end_of (n.native (read_of a) id ts vs h)

abbrev pub natives : Around → Natives
natives a = record { steps = native_steps a; call = native_end a }
