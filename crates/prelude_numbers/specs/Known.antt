-- What the numbers that the code keeps of the prelude are to an evaluation.
use Rattle.std.specs.Prelude.{ℕ}
use Rattle.dart_ir.specs.declared.kind.ThrowKind.{ThrowKind}
use Rattle.dart_ir.specs.declared.kind.ThrowKind.TheVariants as kind
use Rattle.evaluation.specs.State.{Known}
use Rattle.prelude_numbers.specs.declared.known.ErrorClasses.{ErrorClasses}
use Rattle.prelude_numbers.specs.declared.known.KnownNumbers.{KnownNumbers}

-- the number of an error's class
abbrev pub error_class : ErrorClasses → ThrowKind → ℕ
error_class e kind.Exception = e.exception.0
error_class e kind.Error = e.error.0
error_class e kind.ArgumentError = e.argument_error.0
error_class e kind.RangeError = e.range_error.0
error_class e kind.StateError = e.state_error.0
error_class e kind.UnsupportedError = e.unsupported_error.0
error_class e kind.NoSuchMethodError = e.no_such_method_error.0
error_class e kind.CastError = e.cast_error.0
error_class e kind.TypeError = e.type_error.0
error_class e kind.NullThrownError = e.null_thrown_error.0
error_class e kind.FallThroughError = e.fall_through_error.0
error_class e kind.CyclicInitializationError = e.cyclic_initialization_error.0
error_class e kind.AbstractClassInstantiationError = e.abstract_class_instantiation_error.0
error_class e kind.MalformedTypeError = e.malformed_type_error.0
error_class e kind.FormatException = e.format_exception.0
error_class e kind.IntegerDivisionByZeroException = e.integer_division_by_zero_exception.0

-- the prelude's classes and names
abbrev pub known_of : KnownNumbers → Known
known_of k = record {
  null_class = k.null_class.0;
  bool_class = k.bool_class.0;
  int_class = k.int_class.0;
  string_class = k.string_class.0;
  list_class = k.list_class.0;
  type_class = k.type_class.0;
  invocation_class = k.invocation_class.0;
  trace_class = k.trace_class.0;
  send_port_class = k.send_port_class.0;
  receive_port_class = k.receive_port_class.0;
  error_class = error_class k.errors;
  call = k.call.0;
  equals = k.equals.0;
  no_such_method = k.no_such_method.0;
}
