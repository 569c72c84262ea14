-- What `identical` and the natives of `Object` do.
use Rattle.std.specs.Prelude.{Bool, true, false}
use Rattle.dart_ir.specs.declared.native.NativeId.{NativeId}
use Rattle.dart_ir.specs.declared.native.NativeId.TheVariants as n
use Rattle.dart_ir.specs.declared.kind.ThrowKind.TheVariants.{ArgumentError}
use Rattle.dart_ir.specs.declared.value.Value.{Value}
use Rattle.dart_ir.specs.Object.{type_value}
use Rattle.dart_store.specs.Heap.{Heap}
use Rattle.native_base.specs.Plan.{Plan, makes, truth, number, throw}
use Rattle.native_object.specs.Identity.{identical, hash}
use Rattle.native_object.specs.Shown.{Around, type_of, text_of_value}

abbrev pub is_object_native : NativeId → Bool
is_object_native n.Identical = true
is_object_native n.ObjectEqual = true
is_object_native n.ObjectHashCode = true
is_object_native n.ObjectRuntimeType = true
is_object_native n.ObjectToString = true
is_object_native native = false

-- what they do for their first argument and another one
abbrev pub object_native : NativeId → Around → Heap → Value → Value → Plan
object_native n.Identical a h this x = truth (identical a.literals h this x)
object_native n.ObjectEqual a h this x = truth (identical a.literals h this x)
object_native n.ObjectHashCode a h this x = number (hash a.literals h this)
object_native n.ObjectRuntimeType a h this x = makes (type_value (type_of a.known h this))
object_native n.ObjectToString a h this x = text_of_value a h this
object_native native a h this x = throw ArgumentError
