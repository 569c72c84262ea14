-- What an object is that the store keeps beside a pool.
use Rattle.std.specs.Prelude.{◌≡◌, ℕ, ◌+◌, ◌≤◌, List, length, map, Some, slice_get, slice_index_or}
use Rattle.dart_ir.specs.Object.{HeapObject, instance, list, text, closure, bound, type_value, send_port, receive_port, cell}
use Rattle.dart_store.specs.declared.pool.Pool.{Pool}
use Rattle.dart_store.specs.declared.stored.Stored.{Stored}
use Rattle.dart_store.specs.declared.stored.Stored.TheVariants as code
use Rattle.dart_store.specs.Heap.{changed, item_cost}
use Rattle.dart_store.specs.Tables.{types_at, first_type, receiver_at, text_at, Begins}

abbrev pub stored_object : Pool → Stored → HeapObject
stored_object p (code.Instance class args fields) = instance class.0 (types_at p.types args) fields
stored_object p (code.List args items fixed) = list (types_at p.types args) items fixed
stored_object p (code.Text start len) = text (text_at p.units.items start len)
stored_object p (code.Closure f receiver args cells) = closure f.0 (receiver_at p.receivers.items receiver) (types_at p.types args) cells
stored_object p (code.Bound receiver m) = bound receiver m.0
stored_object p (code.TypeValue args) = type_value (first_type (types_at p.types args))
stored_object p (code.SendPort isolate port) = send_port isolate port
stored_object p (code.ReceivePort port) = receive_port port
stored_object p (code.Cell value counted) = cell value counted

-- ---- what an object needs of the pool: so many units, receivers and lists of types, and so many types in its own list

pub record Needs : Type 0 where
  pub units : ℕ
  pub receivers : ℕ
  pub types : ℕ
  pub least : ℕ

abbrev pub none : Needs
none = record { units = 0; receivers = 0; types = 0; least = 0 }

abbrev pub needs : Stored → Needs
needs (code.Instance class args fields) = record none { types = args }
needs (code.List args items fixed) = record none { types = args }
needs (code.Text start len) = record none { units = start + len }
needs (code.Closure f receiver args cells) = record none { receivers = receiver; types = args }
needs (code.Bound receiver m) = none
needs (code.TypeValue args) = record none { types = args; least = 1 }
needs (code.SendPort isolate port) = none
needs (code.ReceivePort port) = none
needs (code.Cell value counted) = none

abbrev pub Fits : Pool → Needs → Type 0
Fits p n = (n.units ≤ length p.units.items) × (n.receivers ≤ length p.receivers.items) × (n.types ≤ length p.types)
    × (n.least ≤ length (types_at p.types n.types))

-- the pool has what each of the objects needs
abbrev pub AllFit : Pool → List Stored → Type 0
AllFit p objects = (k : ℕ) → Fits p (slice_index_or (map needs objects) k none)

-- ---- changes

-- the second pool has what the first one has, and maybe more
abbrev pub Extends : Pool → Pool → Type 0
Extends p q = Begins p.units.items q.units.items × Begins p.receivers.items q.receivers.items × Begins p.types q.types

-- the second object is what the change makes of the first one, and needs what that needs
abbrev pub Becomes : (HeapObject → HeapObject) → Stored → Stored → Type 0
Becomes change old new = ((p : Pool) → stored_object p new ≡ change (stored_object p old)) × (needs new ≡ needs old)

-- the same of the object at a place, of which there may be none, among others that stay
abbrev pub BecomesAt : (HeapObject → HeapObject) → ℕ → List Stored → List Stored → Type 0
BecomesAt change at old new =
    ((p : Pool) → map (stored_object p) new ≡ changed change at (map (stored_object p) old)) × (map needs new ≡ map needs old)

-- what an item more of an object costs
abbrev pub ItemCosts : Stored → ℕ → Type 0
ItemCosts object units = (p : Pool) → item_cost (Some (stored_object p object)) ≡ units

-- the same of the object at a place
abbrev pub ItemCostsAt : ℕ → List Stored → ℕ → Type 0
ItemCostsAt at objects units = (p : Pool) → item_cost (slice_get (map (stored_object p) objects) at) ≡ units
