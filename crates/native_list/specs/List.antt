-- What the natives of lists do.
use Rattle.std.specs.Prelude.{ℕ, ◌+◌, ◌-◌, List, [], ◌∷◌, length, replicate, slice_get, Option, Some, None, Bool, true, false, nat_le, if◌then◌else◌, ℤ, pos, negsuc}
use Rattle.dart_ir.specs.declared.kind.ThrowKind.TheVariants.{ArgumentError, RangeError, UnsupportedError}
use Rattle.dart_ir.specs.declared.native.Answer.TheVariants as a
use Rattle.dart_ir.specs.declared.native.NativeId.{NativeId}
use Rattle.dart_ir.specs.declared.native.NativeId.TheVariants as n
use Rattle.dart_ir.specs.declared.value.Value.{Value}
use Rattle.dart_ir.specs.declared.value.Value.TheVariants as v
use Rattle.dart_ir.specs.Object.{HeapObject, list}
use Rattle.dart_ir.specs.Ty.{Ty, dynamic}
use Rattle.dart_store.specs.declared.store.Kind.{Kind}
use Rattle.dart_store.specs.declared.store.Kind.TheVariants as kind
use Rattle.dart_store.specs.Heap.{Heap, kind_of, length_of, field_at, with_field_at, with_item_at, with_first_items, with_inserted_at, without_item_at, with_nulls_at}
use Rattle.native_number.specs.Number.{number_of}
use Rattle.native_base.specs.Plan.{Plan, makes, changes, grows, throw, value, number, needs, place, number_or}

-- how many items there are
abbrev pub count : Heap → ℕ → ℕ
count h r = length_of (slice_get h.objects r)

-- ---- new lists

-- of one type argument: a missing one is dynamic, and what is beyond it is left out
abbrev pub type_argument : List Ty → List Ty
type_argument [] = dynamic ∷ []
type_argument (t ∷ ts) = t ∷ []

-- so many nulls, whose number can't change
abbrev pub nulls : List Ty → ℤ → Plan
nulls types (pos n) = makes (list (type_argument types) (replicate n v.Null) true)
nulls types (negsuc n) = throw ArgumentError

-- empty and growable without a length
abbrev pub new_list : List Ty → Value → Plan
new_list types v.Null = makes (list (type_argument types) [] false)
new_list types n = needs ArgumentError (number_of n) (nulls types)

-- ---- reads and writes of an item

abbrev pub item : Heap → ℕ → ℤ → Plan
item h r i = needs RangeError (place (count h r) i) (λ k. value (field_at h r k))

abbrev pub item_set : Heap → ℕ → Value → ℤ → Plan
item_set h r x i =
    needs RangeError (place (count h r) i) (λ k. changes (with_field_at h r k x) (a.Value v.Null) 0)

-- ---- changes of the length

-- a list whose length can't change throws before any range is looked at
abbrev pub unless_fixed : Bool → Plan → Plan
unless_fixed true plan = throw UnsupportedError
unless_fixed false plan = plan

abbrev pub added : Heap → ℕ → Value → Plan
added h r x = grows (with_item_at h r x) (a.Value v.Null) 0

-- the first n items, or a null for each more
abbrev pub length_set_to : Heap → ℕ → ℕ → Plan
length_set_to h r n =
    if nat_le n (count h r) then changes (with_first_items h r n) (a.Value v.Null) 0
    else grows (with_nulls_at h r (n - count h r)) (a.Value v.Null) 0

abbrev pub length_set : Heap → ℕ → ℤ → Plan
length_set h r (pos n) = length_set_to h r n
length_set h r (negsuc n) = throw ArgumentError

-- the place of the last of so many
abbrev pub last_place : ℕ → Option ℕ
last_place n = place n (pos (n - 1))

abbrev pub last_removed : Heap → ℕ → Plan
last_removed h r =
    needs RangeError (last_place (count h r)) (λ k. changes (with_first_items h r k) (a.Value (field_at h r k)) 0)

-- the items behind it move
abbrev pub removed : Heap → ℕ → ℤ → Plan
removed h r i =
    needs RangeError (place (count h r) i) (λ k. changes (without_item_at h r k) (a.Value (field_at h r k)) (count h r - (k + 1)))

-- at a place, or at the end
abbrev pub inserted : Heap → ℕ → Value → ℤ → Plan
inserted h r x i =
    needs RangeError (place (count h r + 1) i) (λ k. grows (with_inserted_at h r k x) (a.Value v.Null) (count h r - k))

-- ---- the table

abbrev pub is_list_native : NativeId → Bool
is_list_native n.ListNew = true
is_list_native n.ListLength = true
is_list_native n.ListSetLength = true
is_list_native n.ListIndex = true
is_list_native n.ListIndexSet = true
is_list_native n.ListAdd = true
is_list_native n.ListRemoveLast = true
is_list_native n.ListRemoveAt = true
is_list_native n.ListInsert = true
is_list_native native = false

-- of the list r: first the kinds of all arguments, which are an ArgumentError
abbrev pub of_list : NativeId → Heap → ℕ → Bool → Value → Value → Plan
of_list n.ListLength h r fixed x y = number (pos (count h r))
of_list n.ListSetLength h r fixed x y = needs ArgumentError (number_of x) (λ i. unless_fixed fixed (length_set h r i))
of_list n.ListIndex h r fixed x y = needs ArgumentError (number_of x) (item h r)
of_list n.ListIndexSet h r fixed x y = needs ArgumentError (number_of x) (item_set h r y)
of_list n.ListAdd h r fixed x y = unless_fixed fixed (added h r x)
of_list n.ListRemoveLast h r fixed x y = unless_fixed fixed (last_removed h r)
of_list n.ListRemoveAt h r fixed x y = needs ArgumentError (number_of x) (λ i. unless_fixed fixed (removed h r i))
of_list n.ListInsert h r fixed x y = needs ArgumentError (number_of x) (λ i. unless_fixed fixed (inserted h r y i))
of_list native h r fixed x y = throw ArgumentError

-- whether the length of a list can't change; of another object nothing
abbrev pub fixed_of : Kind → Option Bool
fixed_of (kind.List fixed) = Some fixed
fixed_of other = None

abbrev pub on_list : NativeId → Heap → Value → Value → Value → Plan
on_list native h (v.At r) x y =
    needs ArgumentError (fixed_of (kind_of (slice_get h.objects r.0))) (λ fixed. of_list native h r.0 fixed x y)
on_list native h this x y = throw ArgumentError

-- what a native of lists does for its first argument and two more
abbrev pub list_native : NativeId → List Ty → Heap → Value → Value → Value → Plan
list_native n.ListNew types h this x y = new_list types this
list_native native types h this x y = on_list native h this x y
