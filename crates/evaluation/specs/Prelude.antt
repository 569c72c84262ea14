-- The prelude's classes and names, by their texts.
use Rattle.std.specs.Prelude.{ℕ, suc, List, [], ◌∷◌, ◌&&◌, cond, nat_eq, codes, bytes_eq}
use Rattle.dart_ir.specs.declared.kind.ThrowKind.{ThrowKind}
use Rattle.dart_ir.specs.declared.kind.ThrowKind.TheVariants as kind
use Rattle.core_program.specs.Program.{Class, Program}
use Rattle.evaluation.specs.State.{Known}
use Rattle.evaluation.specs.Values.{name_text}

-- the name of an error's class
abbrev pub error_text : ThrowKind → List ℕ
error_text kind.Exception = codes "Exception"
error_text kind.Error = codes "Error"
error_text kind.ArgumentError = codes "ArgumentError"
error_text kind.RangeError = codes "RangeError"
error_text kind.StateError = codes "StateError"
error_text kind.UnsupportedError = codes "UnsupportedError"
error_text kind.NoSuchMethodError = codes "NoSuchMethodError"
error_text kind.CastError = codes "CastError"
error_text kind.TypeError = codes "TypeError"
error_text kind.NullThrownError = codes "NullThrownError"
error_text kind.FallThroughError = codes "FallThroughError"
error_text kind.CyclicInitializationError = codes "CyclicInitializationError"
error_text kind.AbstractClassInstantiationError = codes "AbstractClassInstantiationError"
error_text kind.MalformedTypeError = codes "MalformedTypeError"
error_text kind.FormatException = codes "FormatException"
error_text kind.IntegerDivisionByZeroException = codes "IntegerDivisionByZeroException"

-- the place of a name in the table, or past its end
abbrev pub name_number : List (List ℕ) → List ℕ → ℕ
name_number [] text = 0
name_number (name ∷ names) text = cond (bytes_eq name text) 0 (suc (name_number names text))

abbrev pub class_number_in : List (List ℕ) → ℕ → List ℕ → List (Class ℕ) → ℕ
class_number_in names unit text [] = 0
class_number_in names unit text (c ∷ cs) =
    cond (nat_eq c.place.unit unit && bytes_eq (name_text names c.name) text) 0 (suc (class_number_in names unit text cs))

-- The class that a file of the prelude declares: `dart:core` is unit 1, and `dart:isolate` unit 2.
abbrev pub core_class : Program ℕ → List (List ℕ) → List ℕ → ℕ
core_class p names text = class_number_in names 1 text p.classes

abbrev pub isolate_class : Program ℕ → List (List ℕ) → List ℕ → ℕ
isolate_class p names text = class_number_in names 2 text p.classes

abbrev pub known : Program ℕ → List (List ℕ) → Known
known p names = record {
  null_class = core_class p names (codes "Null");
  bool_class = core_class p names (codes "bool");
  int_class = core_class p names (codes "int");
  string_class = core_class p names (codes "String");
  list_class = core_class p names (codes "List");
  type_class = core_class p names (codes "Type");
  invocation_class = core_class p names (codes "Invocation");
  trace_class = core_class p names (codes "StackTrace");
  send_port_class = isolate_class p names (codes "SendPort");
  receive_port_class = isolate_class p names (codes "ReceivePort");
  error_class = λ thrown. core_class p names (error_text thrown);
  call = name_number names (codes "call");
  equals = name_number names (codes "==");
  no_such_method = name_number names (codes "noSuchMethod");
}
