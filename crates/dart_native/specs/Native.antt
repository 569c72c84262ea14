-- The natives: the external declarations of the prelude that need nothing of an isolate but its store.
use Rattle.std.specs.Prelude.{ℕ, ◌+◌, ◌/◌, List, [], length, take, sum_by, slice_index_or, Option, Some, None, Bool, true, false, if◌then◌else◌}
use Rattle.dart_ir.specs.declared.native.Answer.{Answer}
use Rattle.dart_ir.specs.declared.native.NativeId.{NativeId}
use Rattle.dart_ir.specs.declared.native.NativeId.TheVariants as n
use Rattle.dart_ir.specs.declared.value.Value.{Value}
use Rattle.dart_ir.specs.declared.value.Value.TheVariants.{Null}
use Rattle.dart_ir.specs.Ty.{Ty}
use Rattle.dart_store.specs.Heap.{Heap}
use Rattle.native_number.specs.Number.{number_native}
use Rattle.native_base.specs.Plan.{Plan, Outcome, answers, value, outcome, work, text_at}
use Rattle.native_text.specs.Text.{is_text_native, text_native}
use Rattle.native_list.specs.List.{is_list_native, list_native}
use Rattle.native_object.specs.Shown.{Around}
use Rattle.native_object.specs.Object.{is_object_native, object_native}

-- ---- arguments

-- an argument, of which a missing one is null
abbrev pub argument : List Value → ℕ → Value
argument args i = slice_index_or args i Null

-- how many arguments a native looks at, `this` among them
abbrev pub arity : NativeId → ℕ
arity n.Identical = 2
arity n.ObjectEqual = 2
arity n.NumAdd = 2
arity n.NumSubtract = 2
arity n.NumMultiply = 2
arity n.NumDivide = 2
arity n.NumTruncatingDivide = 2
arity n.NumModulo = 2
arity n.NumLess = 2
arity n.NumLessEqual = 2
arity n.NumGreater = 2
arity n.NumGreaterEqual = 2
arity n.NumCompareTo = 2
arity n.IntAnd = 2
arity n.IntOr = 2
arity n.IntXor = 2
arity n.IntShiftLeft = 2
arity n.IntShiftRight = 2
arity n.StringIndex = 2
arity n.StringAdd = 2
arity n.StringCodeUnitAt = 2
arity n.StringSubstring = 3
arity n.StringIndexOf = 3
arity n.StringCompareTo = 2
arity n.ListSetLength = 2
arity n.ListIndex = 2
arity n.ListIndexSet = 3
arity n.ListAdd = 2
arity n.ListRemoveAt = 2
arity n.ListInsert = 3
arity n.IsolateSpawn = 2
arity n.ReceivePortNew = 0
arity n.ReceivePortListen = 2
arity n.SendPortSend = 2
arity native = 1

-- ---- what a native does

-- `_print` and those of isolates and ports, which the evaluator does itself
abbrev pub is_of_evaluator : NativeId → Bool
is_of_evaluator n.Print = true
is_of_evaluator n.IsolateSpawn = true
is_of_evaluator n.ReceivePortNew = true
is_of_evaluator n.ReceivePortSendPort = true
is_of_evaluator n.ReceivePortListen = true
is_of_evaluator n.ReceivePortClose = true
is_of_evaluator n.SendPortSend = true
is_of_evaluator native = false

abbrev pub or_null : Option Answer → Plan
or_null (Some answer) = answers answer
or_null None = value Null

abbrev pub plan_on : Around → NativeId → List Ty → Heap → Value → Value → Value → Plan
plan_on a native types h this x y =
    if is_text_native native then text_native native a.literals h this x y
    else if is_list_native native then list_native native types h this x y
    else if is_object_native native then object_native native a h this x else or_null (number_native native this x)

-- What a native does for its type arguments and its arguments: those of the evaluator nothing.
abbrev pub plan : Around → NativeId → List Ty → List Value → Heap → Plan
plan a native types args h = plan_on a native types h (argument args 0) (argument args 1) (argument args 2)

-- what it leaves
abbrev pub native : Around → NativeId → List Ty → List Value → Heap → Outcome
native a id types args h = outcome h (plan a id types args h)

-- ---- steps

abbrev pub units_in : Option (List ℕ) → ℕ
units_in (Some units) = length units
units_in None = 0

-- the text units that a native is given: those of each argument that is a string
abbrev pub given : Around → NativeId → List Value → Heap → ℕ
given a id args h = sum_by (λ x. units_in (text_at a.literals h x)) (take (arity id) args)

-- One step, and one more for each full 16 of the text units that it is given or makes and the items that it moves, as if the
-- units of the store sufficed.
abbrev pub steps : Around → NativeId → List Value → Heap → ℕ
steps a id args h = 1 + (given a id args h + work (plan a id [] args h)) / 16
