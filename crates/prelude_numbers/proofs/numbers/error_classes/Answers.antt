use Rattle.dart_ir.specs.declared.kind.ThrowKind.TheVariants as kind
use Rattle.prelude_numbers.proofs.numbers.error_classes.Goals as goal

pub returns : goal.returns
returns c kind.Exception = c.core_class-exception.ensures
returns c kind.Error = c.core_class-error.ensures
returns c kind.ArgumentError = c.core_class-argument_error.ensures
returns c kind.RangeError = c.core_class-range_error.ensures
returns c kind.StateError = c.core_class-state_error.ensures
returns c kind.UnsupportedError = c.core_class-unsupported_error.ensures
returns c kind.NoSuchMethodError = c.core_class-no_such_method_error.ensures
returns c kind.CastError = c.core_class-cast_error.ensures
returns c kind.TypeError = c.core_class-type_error.ensures
returns c kind.NullThrownError = c.core_class-null_thrown_error.ensures
returns c kind.FallThroughError = c.core_class-fall_through_error.ensures
returns c kind.CyclicInitializationError = c.core_class-cyclic_initialization_error.ensures
returns c kind.AbstractClassInstantiationError = c.core_class-abstract_class_instantiation_error.ensures
returns c kind.MalformedTypeError = c.core_class-malformed_type_error.ensures
returns c kind.FormatException = c.core_class-format_exception.ensures
returns c kind.IntegerDivisionByZeroException = c.core_class-integer_division_by_zero_exception.ensures
