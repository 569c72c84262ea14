-- What stands around a run: the setting of the evaluation, and what follows a value that comes to a site.
use Rattle.std.specs.Borrow.{Bor}
use Rattle.std.specs.Prelude.{◌≡◌, ◌⊎◌, ℕ, List, true, Option, Some, None}
use Rattle.dart_ir.specs.declared.kind.ThrowKind.{ThrowKind}
use Rattle.dart_ir.specs.declared.kind.ThrowKind.TheVariants as kind
use Rattle.dart_ir.specs.declared.value.Value.{Value}
use Rattle.dart_ir.specs.Ty.{Ty}
use Rattle.dart_store.specs.Heap.{Heap}
use Rattle.core_program.specs.declared.program.CoreProgram.{CoreProgram}
use Rattle.core_program.specs.ProgramView as v
use Rattle.type_test.specs.Test.{is_subtype}
use Rattle.evaluation.specs.State.{Known, Setting, World}
use Rattle.evaluation.specs.Checks.{Checking, OnFailure, lets_pass, passes, reports, world}
use Rattle.evaluation.specs.Values.{head_of}
use Rattle.machine_frame.specs.declared.around.ErrorClasses.{ErrorClasses}
use Rattle.machine_frame.specs.declared.around.KnownNumbers.{KnownNumbers}
use Rattle.machine_frame.specs.declared.around.Around.{Around}
use Rattle.machine_frame.specs.Natives.{natives}

-- the number of an error's class
abbrev pub error_class : ErrorClasses → ThrowKind → ℕ
error_class e kind.Exception = e.exception.0
error_class e kind.Error = e.error.0
error_class e kind.ArgumentError = e.argument_error.0
error_class e kind.RangeError = e.range_error.0
error_class e kind.StateError = e.state_error.0
error_class e kind.UnsupportedError = e.unsupported_error.0
error_class e kind.NoSuchMethodError = e.no_such_method_error.0
error_class e kind.CastError = e.cast_error.0
error_class e kind.TypeError = e.type_error.0
error_class e kind.NullThrownError = e.null_thrown_error.0
error_class e kind.FallThroughError = e.fall_through_error.0
error_class e kind.CyclicInitializationError = e.cyclic_initialization_error.0
error_class e kind.AbstractClassInstantiationError = e.abstract_class_instantiation_error.0
error_class e kind.MalformedTypeError = e.malformed_type_error.0
error_class e kind.FormatException = e.format_exception.0
error_class e kind.IntegerDivisionByZeroException = e.integer_division_by_zero_exception.0

-- the prelude's classes and names
abbrev pub known_of : KnownNumbers → Known
known_of k = record {
  null_class = k.null_class.0;
  bool_class = k.bool_class.0;
  int_class = k.int_class.0;
  string_class = k.string_class.0;
  list_class = k.list_class.0;
  type_class = k.type_class.0;
  invocation_class = k.invocation_class.0;
  trace_class = k.trace_class.0;
  send_port_class = k.send_port_class.0;
  receive_port_class = k.receive_port_class.0;
  error_class = error_class k.errors;
  call = k.call.0;
  equals = k.equals.0;
  no_such_method = k.no_such_method.0;
}

-- ---- the setting

-- Nothing that is carried out yet asks for what a message costs.
abbrev pub setting_of : Around → Setting
setting_of a = record {
  program = v.program a.program.now;
  names = a.program.now.names;
  known = known_of a.setup.now.known;
  is_subtype = is_subtype a.program.now.classes;
  natives = natives a;
  isolate = a.setup.now.isolate;
  parcel_cost = λ h v. None;
}

-- ---- checks

-- the program with annotations, where there is one; in production none is asked
abbrev pub annotated_or : CoreProgram → Option (Bor CoreProgram) → CoreProgram
annotated_or x None = x
annotated_or x (Some y) = y.now

abbrev pub checking_of : Around → Checking
checking_of a = record {
  program = v.program (annotated_or a.program.now a.setup.now.annotated);
  bool_class = a.setup.now.known.bool_class.0;
  is_subtype = is_subtype a.program.now.classes;
}

-- in production a check that fails changes nothing; in checked mode it is reported, and an error thrown
abbrev pub failing : Option (Bor CoreProgram) → OnFailure
failing None = lets_pass
failing (Some x) = reports

-- the world of a run, in which calls may nest so deep
abbrev pub world_in : Around → ℕ → World
world_in a depth = world (checking_of a) (setting_of a) (failing a.setup.now.annotated) depth

-- The value goes on from the site: in production, or since it passes the check whatever type arguments are in scope.
abbrev pub IsAdmitted : Around → Heap → ℕ → Value → Type 0
IsAdmitted a h number v =
    (a.setup.now.annotated ≡ None) ⊎ ((args : List Ty) → passes (checking_of a) number (head_of (setting_of a) h v) args ≡ true)
