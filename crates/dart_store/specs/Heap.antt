-- An isolate's heap: its objects in the order in which they were added, its static variables, and the units that it uses of its limit.
use Rattle.std.specs.Prelude.{ℕ, zero, suc, ◌+◌, ◌/◌, List, [], ◌∷◌, ◌++◌, length, take, insert, remove, replicate, ◌*◌, Option, Some, None, Bool, true, false, if◌then◌else◌, slice_get, slice_set, slice_index_or}
use Rattle.dart_ir.specs.declared.value.Value.{Value}
use Rattle.dart_ir.specs.declared.value.Value.TheVariants.{Null}
use Rattle.dart_ir.specs.Object.{HeapObject, instance, list, text, closure, bound, type_value, send_port, receive_port, cell}
use Rattle.dart_store.specs.declared.store.Kind.{Kind}
use Rattle.dart_store.specs.declared.store.Kind.TheVariants as kind
use Rattle.dart_store.specs.declared.store.Static.{Static}
use Rattle.dart_store.specs.declared.store.Static.TheVariants.{Unset}

pub record Heap : Type 0 where
  pub objects : List HeapObject
  pub statics : List Static
  pub used : ℕ
  pub limit : ℕ

-- ---- what an object costs, in units

abbrev pub cost : HeapObject → ℕ
cost (instance class args fields) = length fields + 1
cost (list args items fixed) = length items + 1
cost (text units) = length units / 16 + 1
cost (closure function receiver args cells) = length cells + 1
cost (cell value true) = 1
cost (cell value false) = 0
cost (bound receiver member) = 1
cost (type_value type) = 1
cost (send_port isolate port) = 1
cost (receive_port port) = 1

-- one object more
abbrev pub with_object : Heap → HeapObject → Heap
with_object h object = record h { objects = h.objects ++ object ∷ []; used = h.used + cost object }

-- ---- what an object has

-- its fields, items or cells, or what a cell holds
abbrev pub fields_of : HeapObject → List Value
fields_of (instance class args fields) = fields
fields_of (list args items fixed) = items
fields_of (closure function receiver args cells) = cells
fields_of (cell value counted) = value ∷ []
fields_of object = []

abbrev pub field_of : Option HeapObject → ℕ → Value
field_of (Some object) i = slice_index_or (fields_of object) i Null
field_of None i = Null

-- a field of an object, or null where it has none of that number
abbrev pub field_at : Heap → ℕ → ℕ → Value
field_at h r i = field_of (slice_get h.objects r) i

-- the object that a closure or a method is bound to
abbrev pub receiver_of : Option HeapObject → Value
receiver_of (Some (closure function receiver args cells)) = receiver
receiver_of (Some (bound receiver member)) = receiver
receiver_of object = Null

-- how many fields, items, cells or units of text it has
abbrev pub length_of : Option HeapObject → ℕ
length_of (Some (text units)) = length units
length_of (Some object) = length (fields_of object)
length_of None = 0

-- which object it is, without what it holds
abbrev pub kind_of : Option HeapObject → Kind
kind_of (Some (instance class args fields)) = kind.Instance (record { 0 = class })
kind_of (Some (list args items fixed)) = kind.List fixed
kind_of (Some (text units)) = kind.Text
kind_of (Some (closure function receiver args cells)) = kind.Closure (record { 0 = function })
kind_of (Some (bound receiver member)) = kind.Bound (record { 0 = member })
kind_of (Some (type_value type)) = kind.TypeValue
kind_of (Some (send_port isolate port)) = kind.SendPort isolate port
kind_of (Some (receive_port port)) = kind.ReceivePort port
kind_of (Some (cell value counted)) = kind.Cell
kind_of None = kind.Absent

-- ---- changes of an object that stands there

abbrev pub put : (HeapObject → HeapObject) → ℕ → List HeapObject → Option HeapObject → List HeapObject
put change r objects (Some object) = slice_set objects r (change object)
put change r objects None = objects

abbrev pub changed : (HeapObject → HeapObject) → ℕ → List HeapObject → List HeapObject
changed change r objects = put change r objects (slice_get objects r)

-- another value of a field, an item, or in a cell
abbrev pub with_field : ℕ → Value → HeapObject → HeapObject
with_field i value (instance class args fields) = instance class args (slice_set fields i value)
with_field i value (list args items fixed) = list args (slice_set items i value) fixed
with_field i value (closure function receiver args cells) = closure function receiver args (slice_set cells i value)
with_field zero value (cell old counted) = cell value counted
with_field (suc i) value (cell old counted) = cell old counted
with_field i value object = object

-- one item more
abbrev pub with_item : Value → HeapObject → HeapObject
with_item value (list args items fixed) = list args (items ++ value ∷ []) fixed
with_item value object = object

-- the first items alone
abbrev pub first_items : ℕ → HeapObject → HeapObject
first_items count (list args items fixed) = list args (take count items) fixed
first_items count object = object

-- an item put before place i of a list, or at its end where it has no such place
abbrev pub with_inserted : ℕ → Value → HeapObject → HeapObject
with_inserted i value (list args items fixed) = list args (insert items i value) fixed
with_inserted i value object = object

-- a list without its item i
abbrev pub without_item : ℕ → HeapObject → HeapObject
without_item i (list args items fixed) = list args (remove items i) fixed
without_item i object = object

-- so many nulls more
abbrev pub with_nulls : ℕ → HeapObject → HeapObject
with_nulls count (list args items fixed) = list args (items ++ replicate count Null) fixed
with_nulls count object = object

-- what an item more costs: nothing where there is no list
abbrev pub item_cost : Option HeapObject → ℕ
item_cost (Some (list args items fixed)) = 1
item_cost object = 0

abbrev pub with_field_at : Heap → ℕ → ℕ → Value → Heap
with_field_at h r i value = record h { objects = changed (with_field i value) r h.objects }

abbrev pub with_item_at : Heap → ℕ → Value → Heap
with_item_at h r value = record h {
  objects = changed (with_item value) r h.objects;
  used = h.used + item_cost (slice_get h.objects r);
}

abbrev pub with_first_items : Heap → ℕ → ℕ → Heap
with_first_items h r count = record h { objects = changed (first_items count) r h.objects }

abbrev pub with_inserted_at : Heap → ℕ → ℕ → Value → Heap
with_inserted_at h r i value = record h {
  objects = changed (with_inserted i value) r h.objects;
  used = h.used + item_cost (slice_get h.objects r);
}

abbrev pub without_item_at : Heap → ℕ → ℕ → Heap
without_item_at h r i = record h { objects = changed (without_item i) r h.objects }

abbrev pub with_nulls_at : Heap → ℕ → ℕ → Heap
with_nulls_at h r count = record h {
  objects = changed (with_nulls count) r h.objects;
  used = h.used + item_cost (slice_get h.objects r) * count;
}

-- ---- the number that an object shows

abbrev pub is_cell : HeapObject → Bool
is_cell (cell value counted) = true
is_cell object = false

-- how many of the objects are no cells
abbrev pub count_shown : List HeapObject → ℕ
count_shown [] = 0
count_shown (object ∷ more) = (if is_cell object then 0 else 1) + count_shown more

-- the objects before it that are no cells
abbrev pub number_at : Heap → ℕ → ℕ
number_at h r = count_shown (take r h.objects)

-- ---- static variables

abbrev pub static_at : Heap → ℕ → Static
static_at h i = slice_index_or h.statics i Unset

abbrev pub with_static : Heap → ℕ → Static → Heap
with_static h i value = record h { statics = slice_set h.statics i value }

-- ---- means of proof: the numbers of all objects, from this on

abbrev pub numbers_from : ℕ → List HeapObject → List ℕ
numbers_from n [] = []
numbers_from n (object ∷ more) = n ∷ numbers_from ((if is_cell object then 0 else 1) + n) more
